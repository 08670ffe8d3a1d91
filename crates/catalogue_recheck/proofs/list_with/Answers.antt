-- `list_with` meets its contract. The loop's invariant: the pairs with the rules before number `j` are listed (`ListingWith`).
-- Assumes nothing.
use Prim.Native.Nat.{◌+◌, ◌≤◌, ◌<◌}
use native.Mathlib.Omega.{arith}
use mathlib.Core.Bool.{Bool}
use mathlib.Core.Path.{◌≡◌, refl, sym, ap, ◌∙◌}
use borrow.Author.Rules.{rules, part_to_end}
use lib.ListN.{length, drop, length-replicate}
use Rattle.plain_question.specs.Reached.{Meets, Says}
use Rattle.catalogue_form.proofs.RulesStanding.{begin_in, rules_few, standing_there, record_within}
use Rattle.catalogue_question.specs.AskedBy.{asking_coded}
use Rattle.catalogue_question.specs.PairCoded.{rules_question}
use Rattle.catalogue_pair.specs.Ask.{pair_by}
use Rattle.catalogue_recheck.specs.PairList.{list_with}
use Rattle.catalogue_recheck.proofs.PairListing.{with_start, with_room, with_more, with_ends, asked_told, asked_fits}
use Rattle.catalogue_recheck.proofs.list_with.Goals.{After-ask-pair, After-unwrap-other}
use Rattle.catalogue_recheck.proofs.list_with.Goals as goal

pub offset_bounds-kept-lower : goal.offset_bounds-kept-lower
offset_bounds-kept-lower c =
    let x = c.requires in
    omega (arith, x.there, x.standing.counted, rules_few x.standing)

pub bounds-kept-lower : goal.bounds-kept-lower
bounds-kept-lower c =
    let x = c.requires in
    omega (arith, x.there, x.standing.counted, rules_few x.standing)

pub overflow_step-j : goal.overflow_step-j
overflow_step-j c =
    let x = c.requires in
    omega (arith, x.there, x.standing.counted, rules_few x.standing)

pub loop-j-init : goal.loop-j-init
loop-j-init c = (refl, refl, λ x. with_start x.there)

pub offset_bounds-kept-j : goal.offset_bounds-kept-j
offset_bounds-kept-j c = omega (arith, c.loop-j-test.true, rules_few c.requires.standing)

pub bounds-kept-j : goal.bounds-kept-j
bounds-kept-j c = omega (arith, c.loop-j-test.true, rules_few c.requires.standing)

-- a rule stands there
pub unwrap-other-requires : goal.unwrap-other-requires
unwrap-other-requires c =
    let x = c.requires.standing in
    let there = standing_there x c.loop-j.j (omega (arith, x.counted, c.loop-j-test.true)) in
    rw (c.rule_at.ensures, there) (search rules)

-- both rules stand within the catalogue
lower-within : (c : After-unwrap-other) → begin_in c.args.kept.now c.args.lower ≤ length c.args.catalogue.now
lower-within c = let x = c.requires in omega (arith, record_within x.standing c.args.lower x.there)

other-within : (c : After-unwrap-other) → begin_in c.args.kept.now c.loop-j.j ≤ length c.args.catalogue.now
other-within c =
    let x = c.requires.standing in
    omega (arith, record_within x c.loop-j.j (omega (arith, x.counted, c.loop-j-test.true)))

pub slice_bounds-ask-count : goal.slice_bounds-ask-count
slice_bounds-ask-count c = lower-within (goal.at.slice_bounds-ask-count c).After-unwrap-other

pub slice_bounds-ask-start : goal.slice_bounds-ask-start
slice_bounds-ask-start c = lower-within (goal.at.slice_bounds-ask-start c).After-unwrap-other

pub slice_bounds-ask-count-in-loop-j : goal.slice_bounds-ask-count-in-loop-j
slice_bounds-ask-count-in-loop-j c = other-within (goal.at.slice_bounds-ask-count-in-loop-j c).After-unwrap-other

pub slice_bounds-ask-start-in-loop-j : goal.slice_bounds-ask-start-in-loop-j
slice_bounds-ask-start-in-loop-j c = other-within (goal.at.slice_bounds-ask-start-in-loop-j c).After-unwrap-other

there : (c : After-ask-pair) → c.loop-j.j < length c.requires.standing.rules_present
there c = omega (arith, c.requires.standing.counted, c.loop-j-test.true)

-- what the pair is answered
asked : (c : After-ask-pair) →
    let a = c.args in
    let q = rules_question a.rule.now c.unwrap-other.result in
    (m : Bool) → Says m (Meets q)
    → c.ask-pair.result
    ≡ pair_by a.how q m (drop (begin_in a.kept.now a.lower) a.catalogue.now) (drop (begin_in a.kept.now c.loop-j.j) a.catalogue.now)
    (length c.loop-j.work)
asked c =
    let a = c.args in
    rw (part_to_end a.catalogue.now (begin_in a.kept.now a.lower), part_to_end a.catalogue.now (begin_in a.kept.now c.loop-j.j))
    at c.ask-pair.ensures.answer

pub put_pair-end-requires : goal.put_pair-end-requires
put_pair-end-requires c =
    let k = (goal.at.put_pair-end-requires c).After-ask-pair in
    let a = c.args in
    let x = c.requires in
    let r = c.unwrap-other in
    let here = sym r.ensures ∙ c.rule_at.ensures in
    let told = asked_told a.how x c.loop-j.j (there k) r.result here c.loop-j.work c.loop-j.invariant.0 c.ask-pair.result (asked k) in
    let room : a.n + length (list_with (asking_coded a.how) x.standing.rules_present a.lower a.work.now) ≤ length c.loop-j.bytes =
    omega (arith, x.room, c.loop-j.invariant.1) in
    asked_fits a.how x c.loop-j.j (there k) r.result here c.loop-j.work c.loop-j.invariant.0 c.ask-pair.result (asked k) _ _
    (with_room (c.loop-j.invariant.2 x) (there k) told room)

pub loop-j-preserved : goal.loop-j-preserved
loop-j-preserved c =
    let k = (goal.at.loop-j-preserved c).After-ask-pair in
    let a = c.args in
    let r = c.unwrap-other in
    let here = sym r.ensures ∙ c.rule_at.ensures in (
      ap length c.ask-pair.ensures.work ∙ length-replicate _ 0 ∙ c.loop-j.invariant.0,
      c.put_pair-end.auto.bytes ∙ c.loop-j.invariant.1,
      λ x.
          let h : c.loop-j.j < length x.standing.rules_present = omega (arith, x.standing.counted, c.loop-j-test.true) in
          let told = asked_told a.how x c.loop-j.j h r.result here c.loop-j.work c.loop-j.invariant.0 c.ask-pair.result (asked k) in
          with_more (c.loop-j.invariant.2 x) h told c.ask-pair.ensures.work c.put_pair-end.ensures,
    )

pub returns : goal.returns
returns c = λ x. with_ends (c.loop-j.invariant.2 x) (omega (arith, x.standing.counted, c.loop-j-test.false))
