-- `put_side` meets its contract: a side behind what was laid out (`SheetPut`).
use Prim.Native.Nat.{◌+◌, ◌≤◌}
use native.Mathlib.Omega.{arith}
use Rattle.paper.specs.Numbers.{sheet_side}
use Rattle.paper_write.proofs.LaidShort.{side_short}
use Rattle.write_sheet.specs.SheetWritten.{span}
use Rattle.write_sheet.proofs.SheetPut.{side_behind, its_low, span_moved}
use Rattle.write_sheet.proofs.put_side.Goals.{After-side}
use Rattle.write_sheet.proofs.put_side.Goals as goal

-- how long the side's record is; which mark it has doesn't matter
its-short : (c : After-side) → span c.side.result ≤ 3 + sheet_side
its-short c =
    let (m, e) = c.requires.1 in
    its_low c.side.result (c.side.ensures m e) (side_short _ m c.args.tokens.now)

pub moved-requires : goal.moved-requires
moved-requires c = omega (arith, its-short (goal.at.moved-requires c).After-side, c.requires.0)

pub returns : goal.returns
returns c =
    record {
      laid = λ d w m e l. rw c.moved.ensures (side_behind _ m c.args.tokens.now c.args.at c.side.result (omega (arith, c.requires.0)) l (c.side.ensures m e));
      low = rw c.moved.ensures (omega (arith, span_moved c.args.at c.side.result, its-short (goal.at.returns c).After-side));
    }
