-- `sides::struck_side` meets its contract. The loop's invariant: what is made of the first tokens is written (`ChildTurns`).
use Prim.Native.Nat.{◌+◌, ◌≤◌}
use native.Mathlib.Omega.{arith}
use mathlib.Core.Path.{◌≡◌}
use mathlib.Core.Bool.{not}
use mathlib.Core.List.{◌++◌}
use lib.Dec.{eqb}
use lib.ListN.{length, get_or, take}
use borrow.Author.Rules.{rules}
use Rattle.paper.specs.Lists.{only}
use Rattle.paper.proofs.base.Tests.{eq_eqb, neq_eqb, true_not, false_not}
use Rattle.search_children.specs.Laid.{widest_side}
use Rattle.search_children.proofs.ChildTurns.{pushed, only_taken, only_left, struck_more, written_end, written_all}
use Rattle.search_children.proofs.sides.struck_side.Goals.{then-x-b, else-x-b}
use Rattle.search_children.proofs.sides.struck_side.Goals as goal

pub loop-x-preserved : goal.loop-x-preserved
loop-x-preserved c =
    let l = c.loop-x in
    let b = c.args.b in
    let x = get_or c.args.side.now l.x-index 0 in
    let t = not (eqb x b) in
    let long : length l.bytes ≡ widest_side = search rules in
    let taken : (c.if-x-b.n ≤ l.x-index + 1 + (l.x-index + 1)) × (take c.if-x-b.n c.if-x-b.bytes ≡ take l.n l.bytes ++ only t x) = elim c.if-x-b.branch [
      | then-x-b w ↦ (omega arith, only_taken _ _ t x (false_not (neq_eqb x b w.if-x-b.true)) (rw (w.n-is, w.bytes-is) (pushed l.bytes l.n x (omega arith))))
      | else-x-b w ↦ (omega arith, only_left _ _ t x (true_not (eq_eqb x b w.if-x-b.false)) (rw (w.n-is, w.bytes-is)))
    ] in
    (taken.0, struck_more (omega (arith, c.told-side)) c.if-x.false b l.invariant.1 _ taken.1)

pub returns-then-x : goal.returns-then-x
returns-then-x c =
    let w = c.loop-x.invariant in
    record { few = omega arith; has = written_end w.1 (omega (arith, c.told-side)) c.if-x.true }

pub returns-after-loop-x : goal.returns-after-loop-x
returns-after-loop-x c =
    let w = c.loop-x.invariant in
    record { few = omega (arith, c.loop-x.auto.x-index-end); has = written_all w.1 (omega (arith, c.told-side)) }
