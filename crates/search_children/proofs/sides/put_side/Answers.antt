-- `sides::put_side` meets its contract. The loop's invariant: what is made of the first tokens is written (`ChildTurns`).
use Prim.Native.Nat.{◌+◌, ◌≤◌}
use native.Mathlib.Omega.{arith}
use mathlib.Core.Path.{◌≡◌, sym, ◌∙◌}
use mathlib.Core.Bool.{◌&&◌, ◌||◌}
use mathlib.Core.List.{◌++◌}
use lib.Dec.{leb, eqb}
use lib.ListN.{length, get_or, take}
use borrow.Author.Rules.{rules}
use Rattle.paper.specs.Lists.{only}
use Rattle.base_codes.specs.Inner.{field_code}
use Rattle.search_children.specs.Laid.{widest_side}
use Rattle.search_children.proofs.ChildTurns.{pushed, only_taken, only_left, put_before, written_end, written_all}
use Rattle.search_children.proofs.sides.put_side.Goals.{then-is_front, else-is_front}
use Rattle.search_children.proofs.sides.put_side.Goals as goal

pub loop-x-preserved : goal.loop-x-preserved
loop-x-preserved c =
    let l = c.loop-x in
    let a = c.args in
    let x = get_or a.side.now l.x-index 0 in
    let t = leb field_code x && (eqb x a.a || eqb x a.b) in
    let j = c.if-is_front in
    let long : length l.bytes ≡ widest_side = search rules in
    let more : length c.if-is_front.bytes ≡ widest_side = search rules in
    let taken : (j.n ≤ l.x-index + l.x-index + 1) × (take j.n j.bytes ≡ take l.n l.bytes ++ only t a.c) = elim c.if-is_front.branch [
      | then-is_front w ↦ (omega arith, only_taken _ _ t a.c (sym c.is_front.ensures ∙ w.if-is_front.true) (rw (w.n-is, w.bytes-is) (pushed l.bytes l.n a.c (omega arith))))
      | else-is_front w ↦ (omega arith, only_left _ _ t a.c (sym c.is_front.ensures ∙ w.if-is_front.false) (rw (w.n-is, w.bytes-is)))
    ] in (
      omega (arith, taken.0),
      rw (pushed j.bytes j.n x (omega (arith, taken.0))) (put_before (omega (arith, c.told-side)) c.if-x.false a.c a.a a.b l.invariant.1 _ taken.1),
    )

pub returns-then-x : goal.returns-then-x
returns-then-x c =
    let w = c.loop-x.invariant in
    record { few = omega arith; has = written_end w.1 (omega (arith, c.told-side)) c.if-x.true }

pub returns-after-loop-x : goal.returns-after-loop-x
returns-after-loop-x c =
    let w = c.loop-x.invariant in
    record { few = omega (arith, c.loop-x.auto.x-index-end); has = written_all w.1 (omega (arith, c.told-side)) }
