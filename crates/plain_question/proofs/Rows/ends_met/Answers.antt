-- `ends_met` meets its contract. The loop's invariant: the places at which the left token `i` came in front, for each right token, and whether the start of
-- the one before it was met with that of the right side's end.
use native.Mathlib.Numerals.{add-one}
use native.Mathlib.Omega.{arith}
use mathlib.Core.Path.{◌≡◌, sym, ap}
use lib.ListN.{take}
use Rattle.plain_rows.specs.Rows.{front_by}
use Rattle.plain_rows.proofs.Rows.{token_row}
use Rattle.plain_question.specs.Entered.{fronts}
use Rattle.plain_question.proofs.Entered.{entered_first}
use Rattle.plain_question.proofs.Rows.ends_met.Goals as goal

pub loop-i-init : goal.loop-i-init
loop-i-init c = (entered_first _ _ _, λ k e. absurd (omega arith))

pub across-met-requires : goal.across-met-requires
across-met-requires c = (rw c.token_at-token.ensures (token_row _ _), c.length_of-m.ensures.0)

pub loop-i-preserved : goal.loop-i-preserved
loop-i-preserved c =
    let loop = c.loop-i in
    let a = c.args in
    let goes = c.across-met.ensures in
    let n = c.length_of-n.result in
    let l = fronts a.characters a.self.now.follow.now a.self.now.taking.now a.self.now.last.now (take n a.left) in
    let same = sym (ap (front_by a.self.now.follow.now a.self.now.taking.now a.self.now.last.now) c.token_at-token.ensures) in (
      rw (add-one loop.i) (goes.entered l loop.i same loop.invariant.0),
      λ k e.
          let before : loop.i ≡ k = omega arith in
          rw (← before) (goes.ends l loop.i same loop.invariant.0),
    )

pub returns : goal.returns
returns c =
    let loop = c.loop-i in
    let m = c.length_of-m in
    let n = c.length_of-n in
    rw (← n.ensures.1, ← n.ensures.2, ← m.ensures.1, ← m.ensures.2) (loop.invariant.1 n.result (omega arith))
