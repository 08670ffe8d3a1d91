-- `list_all` meets its contract. The loop's invariant: the pairs of the rules before number `i` are listed (`ListingAll`).
-- Assumes nothing.
use Prim.Native.Nat.{◌≤◌, ◌<◌}
use native.Mathlib.Omega.{arith}
use mathlib.Core.Path.{refl, sym, ◌∙◌}
use borrow.Author.Rules.{rules}
use lib.ListN.{length}
use Rattle.paper.specs.Outcome.{room_of}
use Rattle.paper_catalogue.specs.Recheck.{listed_from_by}
use Rattle.catalogue_form.specs.Kept.{OfForm}
use Rattle.catalogue_form.proofs.RulesStanding.{rules_few, standing_there}
use Rattle.catalogue_question.specs.AskedBy.{asking_coded}
use Rattle.catalogue_recheck.specs.PairList.{ReadyToList}
use Rattle.catalogue_recheck.proofs.PairListing.{all_start, all_room, all_more, all_ends, ready_with}
use Rattle.catalogue_recheck.proofs.Rechecking.{list_short}
use Rattle.catalogue_recheck.proofs.list_all.Goals.{After-unwrap-rule}
use Rattle.catalogue_recheck.proofs.list_all.Goals as goal

pub loop-i-init : goal.loop-i-init
loop-i-init c = (refl, refl, λ x. all_start _ _)

pub offset_bounds-kept-i : goal.offset_bounds-kept-i
offset_bounds-kept-i c = omega (arith, rules_few c.requires.catalogue)

pub bounds-kept-i : goal.bounds-kept-i
bounds-kept-i c = omega (arith, rules_few c.requires.catalogue)

-- a rule stands there
pub unwrap-rule-requires : goal.unwrap-rule-requires
unwrap-rule-requires c =
    let x = c.requires.catalogue in
    let there = standing_there x c.loop-i.i (omega (arith, x.counted, c.loop-i-test.true)) in
    rw (c.rule_at.ensures, there) (search rules)

-- the pairs of the rule that was read are ready to be listed
abbrev ready : (c : After-unwrap-rule) →
    let a = c.args in
    OfForm a.catalogue.now a.kept.now
    → ReadyToList (asking_coded a.how) a.catalogue.now a.kept.now c.loop-i.i c.unwrap-rule.result c.loop-i.work c.loop-i.bytes c.loop-i.n
ready c =
    let a = c.args in
    λ x.
    let h : c.loop-i.i < length x.rules_present = omega (arith, x.counted, c.loop-i-test.true) in
    let room : length (listed_from_by (asking_coded a.how) 0 x.rules_present (room_of a.work.now)) ≤ length c.loop-i.bytes =
    omega (arith, list_short a.how (room_of a.work.now) _ x.of_form, c.loop-i.invariant.1, c.requires.bytes) in
    ready_with (asking_coded a.how) x c.loop-i.i h _ (sym c.unwrap-rule.ensures ∙ c.rule_at.ensures) _ _ _ (all_room (c.loop-i.invariant.2 x) h c.loop-i.invariant.0 room)

pub list_with-n-requires : goal.list_with-n-requires
list_with-n-requires c = ready (goal.at.list_with-n-requires c).After-unwrap-rule c.requires.catalogue

pub loop-i-preserved : goal.loop-i-preserved
loop-i-preserved c = (
  c.list_with-n.auto.work ∙ c.loop-i.invariant.0,
  c.list_with-n.auto.bytes ∙ c.loop-i.invariant.1,
  λ x.
      all_more (c.loop-i.invariant.2 x) (omega (arith, x.counted, c.loop-i-test.true)) c.loop-i.invariant.0
      (c.list_with-n.ensures (ready (goal.at.loop-i-preserved c).After-unwrap-rule x)),
)

pub returns : goal.returns
returns c = λ x. all_ends (c.loop-i.invariant.2 x) (omega (arith, x.counted, c.loop-i-test.false))
