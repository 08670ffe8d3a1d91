-- `first_stray` meets its contract. The loop's invariant: the first stray is the first of those from f on. Assumes nothing.
use Prim.Native.Nat.{suc, ◌+◌, ◌-◌}
use native.Mathlib.Omega.{arith}
use mathlib.Core.Path.{◌≡◌, sym, ap, ◌∙◌}
use mathlib.Core.Bool.{true, false}
use mathlib.Core.List.{◌++◌}
use lib.Dec.{ltb, eqb}
use lib.ListN.{get_or}
use Rattle.paper.specs.Numbers.{fields}
use Rattle.paper.proofs.base.Tests.{both_true, left_false, right_false, lt_ltb, le_ltb}
use Rattle.base_codes.specs.Inner.{field_code, tokens}
use Rattle.base_question.specs.Bodies.{nowhere}
use Rattle.base_question.specs.Standings.{count}
use Rattle.base_question.specs.StraysCoded.{stray_coded, first_of}
use Rattle.base_question.proofs.Strays.{first_here, first_behind, strays_from}
use Rattle.base_question.proofs.first_stray.Goals.{else-bodies-f-gt0-via-then-bodies-f-gt0+else-in_neither, else-bodies-f-gt0-via-else-bodies-f-gt0}
use Rattle.base_question.proofs.first_stray.Goals as goal

pub loop-f-init : goal.loop-f-init
loop-f-init c = let a = c.args in strays_from a.bodies a.left a.right

pub returns-then-in_neither : goal.returns-then-in_neither
returns-then-in_neither c =
    let l = c.loop-f in
    let a = c.args in
    let p = stray_coded a.bodies a.left a.right in
    let n = (get_or a.bodies l.f nowhere).length in
    let stray : p l.f ≡ true = both_true (lt_ltb 0 n c.if-bodies-f-gt0.true) (sym c.in_neither.ensures ∙ c.if-in_neither.true) in
    sym (ap first_of (l.invariant (suc (fields - (l.f + 1))) (omega arith)) ∙ first_here p l.f (fields - (l.f + 1)) stray)

pub loop-f-preserved : goal.loop-f-preserved
loop-f-preserved c =
    let l = c.loop-f in
    let a = c.args in
    let p = stray_coded a.bodies a.left a.right in
    let n = (get_or a.bodies l.f nowhere).length in
    let none = eqb (count (field_code + l.f) (tokens a.left ++ tokens a.right)) 0 in
    let other : p l.f ≡ false =
    elim c.else-bodies-f-gt0.branch [
      | else-bodies-f-gt0-via-then-bodies-f-gt0+else-in_neither w ↦ right_false (ltb 0 n) none (sym w.in_neither.ensures ∙ w.if-in_neither.false)
      | else-bodies-f-gt0-via-else-bodies-f-gt0 w ↦ left_false (ltb 0 n) none (le_ltb 0 n w.if-bodies-f-gt0.false)
    ] in
    λ m e. l.invariant (suc m) (omega arith) ∙ first_behind p l.f m other

pub returns : goal.returns
returns c =
    let l = c.loop-f in
    sym (ap first_of (l.invariant 0 (omega arith)))
