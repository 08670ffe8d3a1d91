-- `withdraw` meets its contract, from what was read (`Entering`). Assumes nothing.
use Prim.Native.Nat.{◌<◌}
use native.Mathlib.Omega.{arith}
use mathlib.Core.Path.{refl, sym, ◌∙◌}
use lib.ListN.{length}
use Rattle.catalogue_form.specs.Kept.{OfForm}
use Rattle.catalogue_form.proofs.FormFound.{no_rules, some_rules}
use Rattle.catalogue_form.proofs.RulesStanding.{rules_few, next_begin}
use Rattle.catalogue_add.proofs.Entering.{takes_from_none, takes_none, takes_one}
use Rattle.catalogue_add.proofs.withdraw.Goals.{Else-kept-number, In-Some}
use Rattle.catalogue_add.proofs.withdraw.Goals as goal

pub returns-in_default : goal.returns-in_default
returns-in_default c = takes_from_none _ _ (no_rules _ (sym c.in_default.is ∙ c.find.ensures))

-- the rules that stand
standing : (c : In-Some) → OfForm c.args.catalogue.now c.in-Some.kept
standing c = some_rules _ c.in-Some.kept (sym c.in-Some.is ∙ c.find.ensures)

pub returns-then-kept-number : goal.returns-then-kept-number
returns-then-kept-number c =
    let x = standing (goal.at.returns-then-kept-number c).In-Some in
    takes_none _ _ x.rules_present x.of_form (omega (arith, x.counted, c.if-kept-number.true))

-- the rule is there
there : (c : Else-kept-number) →
    c.args.number < length (standing (goal.at.Else-kept-number c).In-Some).rules_present
there c = omega (arith, (standing (goal.at.Else-kept-number c).In-Some).counted, c.if-kept-number.false)

pub offset_bounds-kept-number : goal.offset_bounds-kept-number
offset_bounds-kept-number c =
    omega (arith, c.if-kept-number.false, rules_few (standing (goal.at.offset_bounds-kept-number c).In-Some))

pub bounds-kept-number : goal.bounds-kept-number
bounds-kept-number c = omega (arith, c.if-kept-number.false, rules_few (standing (goal.at.bounds-kept-number c).In-Some))

pub overflow_add-next : goal.overflow_add-next
overflow_add-next c = omega (arith, c.if-kept-number.false, rules_few (standing (goal.at.overflow_add-next c).In-Some))

pub offset_bounds-kept-number-2 : goal.offset_bounds-kept-number-2
offset_bounds-kept-number-2 c =
    omega (arith, c.if-kept-number.false, rules_few (standing (goal.at.offset_bounds-kept-number-2 c).In-Some))

pub bounds-kept-number-2 : goal.bounds-kept-number-2
bounds-kept-number-2 c = omega (arith, c.if-kept-number.false, rules_few (standing (goal.at.bounds-kept-number-2 c).In-Some))

pub overflow_sub-next : goal.overflow_sub-next
overflow_sub-next c =
    omega (arith, next_begin (standing (goal.at.overflow_sub-next c).In-Some) _ (there (goal.at.overflow_sub-next c).Else-kept-number))

pub returns : goal.returns
returns c =
    let x = standing (goal.at.returns c).In-Some in
    takes_one _ _ _ x c.if-kept-number.false _ _ refl refl _ c.close.ensures
