-- `put_rules` meets its contract. The loop's invariant: the rules before this one are put (`Walking`), and it begins within the catalogue.
use Prim.Native.Nat.{ℕ, ◌+◌, ◌-◌, ◌≤◌}
use native.Mathlib.Nat.{add-sub_cancel_left}
use native.Mathlib.Omega.{arith}
use mathlib.Core.Path.{◌≡◌, refl, sym, ap, ◌∙◌, subst}
use lib.ListN.{length, take, drop, length-drop}
use Rattle.base_put.specs.Counted.{Counted}
use Rattle.base_put.proofs.Counting.{counted_none}
use Rattle.catalogue_form.specs.Kept.{rule_there}
use Rattle.carry_put.specs.Putting.{bytes_there}
use Rattle.carry_put.proofs.RulesPut.{there_within, put_is, none_put, walk_start, walk_on, walk_ends}
use Rattle.carry_put.proofs.put_rules.Goals.{In-Ok, in-Ok, in_default}
use Rattle.carry_put.proofs.put_rules.Goals as goal

pub loop-init : goal.loop-init
loop-init c = (omega arith, refl, walk_start _ _ _ _)

-- the record of the rule that was read
next-within : (c : In-Ok) → c.loop.at + c.in-Ok.rule.bytes ≤ length c.args.catalogue.now
next-within c =
    let at = c.loop.at in
    let catalogue = c.args.catalogue.now in
    omega (arith, c.loop.invariant.0, ap bytes_there (sym c.in-Ok.is ∙ c.rule_at.ensures), there_within (drop at catalogue), length-drop at catalogue)

pub overflow_add-next : goal.overflow_add-next
overflow_add-next c = omega (arith, next-within (goal.at.overflow_add-next c).In-Ok)

pub slice_bounds-put_whole-end : goal.slice_bounds-put_whole-end
slice_bounds-put_whole-end c = next-within (goal.at.slice_bounds-put_whole-end c).In-Ok

pub loop-preserved : goal.loop-preserved
loop-preserved c =
    let at = c.loop.at in
    let catalogue = c.args.catalogue.now in
    elim c.match-rule_at.branch [
      | in-Ok w ↦
          let rule = w.in-Ok.rule in
          let here = sym w.in-Ok.is ∙ c.rule_at.ensures in
          let part : take ((at + rule.bytes) - at) (drop at catalogue) ≡ take rule.bytes (drop at catalogue) = rw (add-sub_cancel_left at rule.bytes) in
          let within : at + rule.bytes ≤ length catalogue = omega (arith, c.loop.invariant.0, ap bytes_there here, there_within (drop at catalogue), length-drop at catalogue) in
          let further : at + rule.bytes ≡ at + bytes_there (rule_there (drop at catalogue)) = ap (λ (n : ℕ). at + n) (ap bytes_there here) in
          rw (w.at-is, w.bytes-is, w.end-is)
          (within, w.put_whole-end.auto.out ∙ c.loop.invariant.1, walk_on c.loop.invariant.2 further (subst (Counted _ _ _ _) (put_is _ _ rule here _ part _ w.rule_counts-counts.ensures) w.put_whole-end.ensures))
      | in_default w ↦
          let here = sym w.in_default.is ∙ c.rule_at.ensures in
          let same : at ≡ at + bytes_there (rule_there (drop at catalogue)) = omega (arith, ap bytes_there here) in
          rw (w.at-is, w.bytes-is, w.end-is)
          (c.loop.invariant.0, c.loop.invariant.1, walk_on c.loop.invariant.2 same (subst (Counted _ _ _ _) (none_put _ _ _ here) counted_none))
    ]

pub returns : goal.returns
returns c = walk_ends c.loop.invariant.2 (omega (arith, c.loop-test.false))
