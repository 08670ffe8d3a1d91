-- `field_weights` meets its contract, by which bytes are the field's.
use mathlib.Core.Path.{◌≡◌, sym, ap, ◌∙◌}
use mathlib.Core.Bool.{cond}
use lib.Dec.{ltb}
use lib.ListN.{get_or}
use Rattle.paper.specs.Numbers.{rule_fields}
use Rattle.paper.proofs.base.Tests.{cond_true, cond_false, lt_ltb, le_ltb}
use Rattle.base_editions.specs.Editions.{paper_edition}
use Rattle.base_question.specs.Bodies.{nowhere}
use Rattle.decide_letters.specs.PatternStack.{counted, packed}
use Rattle.decide_letters.specs.LettersCoded.{body_weights, field_weights}
use Rattle.decide_letters.proofs.Asked.field_weights.Goals.{then-f-lt-RULE_FIELDS, else-f-lt-RULE_FIELDS}
use Rattle.decide_letters.proofs.Asked.field_weights.Goals as goal

pub returns : goal.returns
unfolding field_weights
returns c =
    let a = c.args.self.now in
    let b = get_or a.bodies c.args.f nowhere in
    let its = λ (s : _). packed (body_weights (counted c.args.counting) (paper_edition a.edition) s b) in
    let which : c.if-f-lt-RULE_FIELDS.bytes.now ≡ cond (ltb c.args.f rule_fields) a.first.now a.second.now =
    elim c.if-f-lt-RULE_FIELDS.branch [
      | then-f-lt-RULE_FIELDS w ↦ ap (λ r. r.now) w.bytes-is ∙ sym (cond_true _ _ _ (lt_ltb c.args.f rule_fields w.if-f-lt-RULE_FIELDS.true))
      | else-f-lt-RULE_FIELDS w ↦ ap (λ r. r.now) w.bytes-is ∙ sym (cond_false _ _ _ (le_ltb c.args.f rule_fields w.if-f-lt-RULE_FIELDS.false))
    ] in
    c.body_weights.ensures ∙ ap its which
