-- `add_by` meets its contract, from what was read (`Entering`). Assumes nothing.
use mathlib.Core.Path.{◌≡◌, sym, ◌∙◌}
use Rattle.paper_catalogue.specs.Catalogue.{is_full}
use borrow.Author.Rules.{rules}
use Rattle.std.specs.Prelude.{Err}
use Rattle.paper.specs.Rule.{read_rule}
use Rattle.read_rule.specs.RuleRead.{rule_bodies}
use Rattle.read_rule.proofs.RuleStruct.{RuleTold, rule_fault, rule_stands}
use Rattle.catalogue_add.specs.declared.AddError.TheVariants.{Refused}
use Rattle.catalogue_form.specs.Kept.{OfForm}
use Rattle.catalogue_form.proofs.FormFound.{no_rules, some_rules}
use Rattle.catalogue_add.proofs.Entering.{full_is, adds_to_none, adds_fault, adds_foreign, adds_full}
use Rattle.catalogue_add.proofs.add_by.Goals.{After-is_full, In-Some, In_ok-new}
use Rattle.catalogue_add.proofs.add_by.Goals as goal

pub returns-in_default : goal.returns-in_default
returns-in_default c = adds_to_none _ _ _ _ (no_rules _ (sym c.in_default.is ∙ c.find.ensures))

-- the rules that stand
standing : (c : In-Some) → OfForm c.args.catalogue.now c.in-Some.kept
standing c = some_rules _ c.in-Some.kept (sym c.in-Some.is ∙ c.find.ensures)

-- whether the new rule fits
full-here : (c : After-is_full) →
    is_full (standing (goal.at.After-is_full c).In-Some).rules_present c.args.bytes.now c.args.catalogue.now ≡ c.is_full.result
full-here c =
    let x = standing (goal.at.After-is_full c).In-Some in
    full_is c.in-Some.kept x.rules_present c.args.catalogue.now c.args.bytes.now _ x.counted x.its_used c.is_full.ensures

pub returns-in_err-new : goal.returns-in_err-new
returns-in_err-new c =
    let x = standing (goal.at.returns-in_err-new c).In-Some in
    let e : c.from_residual.result ≡ Err (Refused c.in_err-new.field-0.0) = search rules in
    rw e
    (adds_fault _ _ _ _ x.rules_present x.of_form _ _ (rule_fault (rule_bodies c.args.bytes.now) (read_rule c.args.bytes.now) c.in_err-new.field-0.0 (sym c.read.ensures ∙ c.in_err-new.was)))

-- the rule that was read
its-rule : (c : In_ok-new) → RuleTold (rule_bodies c.args.bytes.now) (read_rule c.args.bytes.now) c.in_ok-new.new
its-rule c = rule_stands (rule_bodies c.args.bytes.now) (read_rule c.args.bytes.now) c.in_ok-new.new (sym c.read.ensures ∙ c.in_ok-new.was)

pub returns-then-new : goal.returns-then-new
returns-then-new c =
    let x = standing (goal.at.returns-then-new c).In-Some in
    let r = its-rule (goal.at.returns-then-new c).In_ok-new in
    adds_foreign _ _ _ _ x.rules_present x.of_form r.rule _ r.reads (sym r.foreign ∙ c.if-new.true)

pub returns-then-is_full : goal.returns-then-is_full
returns-then-is_full c =
    let x = standing (goal.at.returns-then-is_full c).In-Some in
    let r = its-rule (goal.at.returns-then-is_full c).In_ok-new in
    let full = full-here (goal.at.returns-then-is_full c).After-is_full ∙ c.if-is_full.true in
    adds_full _ _ _ _ x.rules_present x.of_form r.rule _ r.reads (sym r.foreign ∙ c.if-new.false) full

pub enter-requires : goal.enter-requires
enter-requires c =
    let x = standing (goal.at.enter-requires c).In-Some in
    let r = its-rule (goal.at.enter-requires c).In_ok-new in
    record {
      asks = record {
        standing = x;
        rule = r.rule;
        its_bytes = _;
        is_read = r.reads;
        own = sym r.foreign ∙ c.if-new.false;
        side_is = r.side;
        fields_are = r.fields;
        bodies_are = r.bodies_are;
      };
      room = full-here (goal.at.enter-requires c).After-is_full ∙ c.if-is_full.false;
    }
