-- `ask_all` meets its contract. The loop's invariant: the pairs before number `i` are all answered 1 (`Going`). Assumes nothing.
use native.Mathlib.Omega.{arith}
use mathlib.Core.Path.{◌≡◌, sym, ap, ◌∙◌}
use borrow.Author.Rules.{rules, part_to_end}
use lib.ListN.{length, length-replicate}
use Rattle.paper.specs.Outcome.{room_of}
use Rattle.paper_catalogue.specs.Calls.{rule_at}
use Rattle.catalogue_form.proofs.RulesStanding.{begin_in, rules_few, standing_there, record_within}
use Rattle.catalogue_question.specs.AskedBy.{asking_coded, told_pair}
use Rattle.catalogue_add.specs.Addition.{ReadyToAsk}
use Rattle.catalogue_add.proofs.Going.{going_more, going_stops, asked_told}
use Rattle.catalogue_add.proofs.ask_all.Goals.{After-ask-pair}
use Rattle.catalogue_add.proofs.ask_all.Goals as goal

pub offset_bounds-kept-i : goal.offset_bounds-kept-i
offset_bounds-kept-i c = omega (arith, c.loop-i-test.true, rules_few c.requires.standing)

pub bounds-kept-i : goal.bounds-kept-i
bounds-kept-i c = omega (arith, c.loop-i-test.true, rules_few c.requires.standing)

-- a rule stands there
pub unwrap-present-requires : goal.unwrap-present-requires
unwrap-present-requires c =
    let x = c.requires.standing in
    let there = standing_there x c.loop-i.i (omega (arith, x.counted, c.loop-i-test.true)) in
    rw (c.rule_at.ensures, there) (search rules)

-- within the catalogue
pub slice_bounds-ask-count : goal.slice_bounds-ask-count
slice_bounds-ask-count c =
    let x = c.requires.standing in
    omega (arith, record_within x c.loop-i.i (omega (arith, x.counted, c.loop-i-test.true)))

pub slice_bounds-ask-start : goal.slice_bounds-ask-start
slice_bounds-ask-start c =
    let x = c.requires.standing in
    omega (arith, record_within x c.loop-i.i (omega (arith, x.counted, c.loop-i-test.true)))

-- what the pair tells
told : (k : After-ask-pair) →
    let a = k.args in
    (x : ReadyToAsk a.catalogue.now a.bytes.now a.kept.now a.new.now)
    → told_pair k.ask-pair.result ≡ (asking_coded a.how).asks (rule_at x.standing.rules_present k.loop-i.i) x.rule (room_of a.work.now)
told k =
    let a = k.args in
    λ x.
    asked_told a.how x k.loop-i.i (omega (arith, x.standing.counted, k.loop-i-test.true)) k.unwrap-present.result (sym k.unwrap-present.ensures ∙ k.rule_at.ensures) k.loop-i.work _ k.loop-i.invariant.0
    k.ask-pair.result (rw (part_to_end a.catalogue.now (begin_in a.kept.now k.loop-i.i)) at k.ask-pair.ensures.answer)

pub returns-then-not-is_apart : goal.returns-then-not-is_apart
returns-then-not-is_apart c =
    λ x.
    going_stops (c.loop-i.invariant.1 x) (omega (arith, x.standing.counted, c.loop-i-test.true))
    (told (goal.at.returns-then-not-is_apart c).After-ask-pair x) c.ask-pair.ensures.work (sym c.is_apart.ensures ∙ c.if-not-is_apart.true)

pub loop-i-preserved : goal.loop-i-preserved
loop-i-preserved c = (
  ap length c.ask-pair.ensures.work ∙ length-replicate _ 0 ∙ c.loop-i.invariant.0,
  λ x.
      going_more (c.loop-i.invariant.1 x) (omega (arith, x.standing.counted, c.loop-i-test.true))
      (told (goal.at.loop-i-preserved c).After-ask-pair x) c.ask-pair.ensures.work (sym c.is_apart.ensures ∙ c.if-not-is_apart.false),
)
