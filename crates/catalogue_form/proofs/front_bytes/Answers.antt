-- `front_bytes` meets its contract, from what the rule at the front says (`FrontBytes`). Assumes nothing.
use mathlib.Core.Path.{◌≡◌, sym, ◌∙◌}
use Rattle.paper.specs.Rule.{rule_front}
use Rattle.read_rule.specs.RuleRead.{rule_bodies}
use Rattle.read_rule.proofs.RuleStruct.{RuleTold, rule_stands}
use Rattle.catalogue_form.specs.Kept.{unfit_by}
use Rattle.catalogue_form.proofs.FrontBytes.{unfit_told, front_unfit, front_fit}
use Rattle.catalogue_form.proofs.front_bytes.Goals.{After-is_unfit}
use Rattle.catalogue_form.proofs.front_bytes.Goals as goal

-- the rule that was read, and whether it is unfit
told : (c : After-is_unfit) → let s = c.args.s.now in RuleTold (rule_bodies s) (rule_front s) c.front_into.new.rule
told c =
    let s = c.args.s.now in rule_stands (rule_bodies s) (rule_front s) c.front_into.new.rule (sym c.in-Ok.ensures)

fitness : (c : After-is_unfit) → unfit_by c.args.strict (told c).rule ≡ c.is_unfit.result
fitness c = sym (c.is_unfit.ensures ∙ unfit_told c.args.strict c.args.s.now c.front_into.new.rule (told c))

pub returns-then-is_unfit : goal.returns-then-is_unfit
returns-then-is_unfit c =
    let p = (goal.at.returns-then-is_unfit c).After-is_unfit in
    sym (front_unfit _ _ _ c.if-rules-ge-CATALOGUE_RULES.false c.front_into.new.rule (told p) (fitness p ∙ c.if-is_unfit.true))

pub returns : goal.returns
returns c =
    let p = (goal.at.returns c).After-is_unfit in
    sym (front_fit _ _ _ c.if-rules-ge-CATALOGUE_RULES.false c.front_into.new.rule (told p) (fitness p ∙ c.if-is_unfit.false))
