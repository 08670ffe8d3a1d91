-- `characters` meets its contract. The loop's invariant: those below c were put.
use Prim.Native.Nat.{suc, ◌+◌, ◌-◌}
use native.Mathlib.Omega.{arith}
use mathlib.Core.Path.{◌≡◌, refl, ◌∙◌}
use Rattle.base_put.proofs.Counting.{counted_none, counted_then}
use Rattle.script_terms.proofs.Ranges.{none_yet, one_more}
use Rattle.script_terms.proofs.characters.Goals as goal

pub loop-c-init : goal.loop-c-init
loop-c-init c = (refl, rw (none_yet c.args.lo) counted_none)

pub loop-c-preserved : goal.loop-c-preserved
loop-c-preserved c =
    let lo = c.args.lo in
    let n = c.loop-c.c in (
      c.next_character-end.auto.out ∙ c.loop-c.invariant.0,
      rw (one_more lo n (n + 1 - lo) c.loop-c.auto.c (omega arith)) (counted_then c.loop-c.invariant.1 c.next_character-end.ensures),
    )

pub returns : goal.returns
returns c =
    let lo = c.args.lo in
    let hi = c.args.hi in
    let all : c.loop-c.c ≡ hi = omega (arith, c.loop-c.auto.c-end c.requires) in
    rw (one_more lo hi (suc hi - lo) c.requires (omega arith)) (counted_then (rw all at c.loop-c.invariant.1) c.next_character.ensures)
