-- `front_into` meets its contract, from what its parts are (`RuleParts`). Assumes nothing.
use Prim.Native.Nat.{ℕ}
use mathlib.Core.Path.{◌≡◌, sym, ap, ◌∙◌}
use mathlib.Core.Bool.{true}
use mathlib.Core.List.{List}
use Rattle.std.specs.Prelude.{Err}
use Rattle.std.proofs.lemmas.Result.{err_from_is_err_and}
use Rattle.paper.specs.Rule.{rule_front}
use Rattle.paper.specs.Sheet.{RU, next_is, faulty}
use Rattle.base_answers.specs.Faults.{fault_of}
use Rattle.base_answers.specs.declared.Refusal.{Refusal}
use Rattle.base_answers.proofs.Same.{same_fault}
use Rattle.read_side.proofs.SideStruct.{side_stands}
use Rattle.read_side.proofs.SideStruct as Told
use Rattle.read_fields.proofs.FieldsStruct.{fields_fault, fields_stand}
use Rattle.read_rule.specs.RuleRead.{rule_bodies, rule_of}
use Rattle.read_rule.proofs.RuleParts.{short, unmarked, patterns_fault, side_fault, whole}
use Rattle.read_rule.proofs.front_into.Goals.{Else-not-next_is}
use Rattle.read_rule.proofs.front_into.Goals as goal

-- the mark is there
marked-here : (c : Else-not-next_is) → next_is RU c.args.s.now 0 ≡ true
marked-here c = sym c.next_is.ensures ∙ c.if-not-next_is.false

pub returns-then-s-lt2 : goal.returns-then-s-lt2
returns-then-s-lt2 c = sym (ap (rule_of _) (short _ c.if-s-lt2.true))

pub returns-then-not-next_is : goal.returns-then-not-next_is
returns-then-not-next_is c =
    sym (ap (rule_of _) (unmarked _ c.if-s-lt2.false (sym c.next_is.ensures ∙ c.if-not-next_is.true)))

-- a part of the rule is refused
refuses : (s : List ℕ) (x : Refusal) → rule_front s ≡ faulty (fault_of x.fault) x.place → Err x ≡ rule_of (rule_bodies s) (rule_front s)
refuses s x e = rw (e, same_fault x.fault)

pub returns-in_err-patterns : goal.returns-in_err-patterns
returns-in_err-patterns c =
    let m = marked-here (goal.at.returns-in_err-patterns c).Else-not-next_is in
    let p = err_from_is_err_and c.from_residual.result c.from_residual.ensures.1 in
    rw (p.1, p.2) (refuses _ _ (patterns_fault _ c.if-s-lt2.false m _ _ (fields_fault _ _ _ (sym c.in_err-patterns.ensures.said))))

pub returns-in_err-at_left : goal.returns-in_err-at_left
returns-in_err-at_left c =
    let m = marked-here (goal.at.returns-in_err-at_left c).Else-not-next_is in
    let q = fields_stand _ _ _ (sym c.in_ok-patterns.ensures.said) in
    let p = err_from_is_err_and c.from_residual-in_err-at_left.result c.from_residual-in_err-at_left.ensures.1 in
    rw (p.1, p.2) (refuses _ _ (side_fault _ c.if-s-lt2.false m q.fields _ q.reads _ _ (Told.side_fault _ _ (sym c.in_err-at_left.ensures))))

pub returns : goal.returns
returns c =
    let l = side_stands _ _ (sym c.in_ok-at_left.ensures) in
    let q = fields_stand _ _ _ (sym c.in_ok-patterns.ensures.said) in
    whole _ c.if-s-lt2.false (marked-here (goal.at.returns c).Else-not-next_is) q.fields _ q.reads l.side _ l.reads _ _ _ _ l.codes (c.in_ok-patterns.ensures.tables ∙ q.tables)
    (rw (← q.above) c.foreign-rule.ensures) q.bodies_are
