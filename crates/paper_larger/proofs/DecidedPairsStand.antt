-- A catalogue that decides, in a larger room.
--   pair_decision_stands    : a pair of good rules that is decided 1 is decided 1, and one that is decided 0 is decided 0
--   entered_decided_stands  : what `add_decided` enters it enters by a larger working buffer too, with the same bytes
--   decided_list_fits       : a list of pairs that fitted into its buffer fits
--   no_more_undecided       : `recheck_decided` with more room lists no pair that it didn't list before
-- Follows from `DecisionLarger` for the reading that asks the pair, and from `CatalogueLarger`.
use Prim.Native.Nat.{ℕ, ◌≤◌}
use native.Mathlib.Omega.{arith}
use mathlib.Core.Path.{◌≡◌, sym, ap, ◌∙◌}
use mathlib.Core.Bool.{true}
use mathlib.Core.List.{List, [], Memᴰ}
use lib.Dec.{eqb}
use lib.ListN.{take}
use Rattle.paper.specs.Sheet.{asked}
use Rattle.paper.specs.Rule.{Rule, pair}
use Rattle.paper.specs.Outcome.{room_of}
use Rattle.paper.proofs.base.Tests.{cond_by, eqb_true}
use Rattle.paper_decide.specs.Deciding.{decision_of}
use Rattle.paper_catalogue.specs.PairAsking.{PairAnswered}
use Rattle.paper_catalogue.specs.Calls.{without_20}
use Rattle.paper_catalogue.proofs.GoodRule.{GoodRule, pair_asks}
use Rattle.paper_catalogue.proofs.Rechecked.{records_written}
use Rattle.paper_catalogue_decide.specs.DecidedPairs.{pair_decided, by_deciding, adding_decided, rechecking_decided}
use Rattle.paper_catalogue_decide.proofs.PairDecided.{decision_tells, deciding_right}
use Rattle.paper_larger.specs.Stands.{is_clash, PairDecisionStands, EnteredToo}
use Rattle.paper_larger.proofs.CatalogueLarger.{Keeps1, entered_larger, fits_still, listed_before}
use Rattle.paper_larger.proofs.DecisionLarger.{clash_cases, reading_decision_stands}

-- A pair is answered 1 where `decide` says 1, and 0 where it says 0 or 20.
number_1 : (n : ℕ) → without_20 n ≡ 1 → n ≡ 1
number_1 n = cond_by (λ (m : ℕ). m ≡ 1 → n ≡ 1) (eqb n 20) (λ _ (e : 0 ≡ 1). absurd (omega (arith, e))) (λ _ e. e)

number_clash : (n : ℕ) → without_20 n ≡ 0 → is_clash n ≡ true
number_clash n = cond_by (λ (m : ℕ). m ≡ 0 → is_clash n ≡ true) (eqb n 20) (λ h _. rw (eqb_true n 20 h)) (λ _ e. rw e)

clash_number : (n : ℕ) → is_clash n ≡ true → without_20 n ≡ 0
clash_number n h = clash_cases n h (λ e. rw e) (λ e. rw e)

module _ (r s : Rule) (good-r : GoodRule r) (good-s : GoodRule s) where
  answer_is : (work : List ℕ) → (pair_decided r s (room_of work)).answer ≡ without_20 (decision_of (asked (pair r s)) work []).outcome.number
  answer_is work = ap (λ (p : PairAnswered). p.answer) (decision_tells r s good-r good-s work [])

  pub pair_decision_stands : (work larger : List ℕ) → room_of work ≤ room_of larger
      → PairDecisionStands (pair_decided r s (room_of work)) (pair_decided r s (room_of larger))
  pair_decision_stands work larger more =
      let stands = reading_decision_stands (asked (pair r s)) (pair_asks r s good-r good-s) [] work larger more in
      let n = (decision_of (asked (pair r s)) work []).outcome.number in
      let m = (decision_of (asked (pair r s)) larger []).outcome.number in
      record {
        no_clash = λ e. answer_is larger ∙ ap without_20 (stands.no_clash (number_1 n (sym (answer_is work) ∙ e)));
        clash = λ e. answer_is larger ∙ clash_number m (stands.clash (number_clash n (sym (answer_is work) ∙ e)));
      }

deciding_keeps_1 : Keeps1 by_deciding
deciding_keeps_1 r s good-r good-s work larger more = (pair_decision_stands r s good-r good-s work larger more).no_clash

module _ (work larger : List ℕ) (more : room_of work ≤ room_of larger) (catalogue : List ℕ) where
  -- "what `add_decided` enters it enters in any larger room, with the same bytes"
  pub entered_decided_stands : (bytes : List ℕ) → (adding_decided catalogue bytes work).added.number ≡ 0
      → EnteredToo catalogue larger (adding_decided catalogue bytes work).added (adding_decided catalogue bytes larger).added
  unfolding adding_decided
  entered_decided_stands bytes = entered_larger by_deciding deciding_keeps_1 work larger more catalogue bytes

  -- A list that fitted into its buffer fits.
  pub decided_list_fits : (list : List ℕ) → (rechecking_decided catalogue work list).number ≡ 0 → (rechecking_decided catalogue larger list).number ≡ 0
  unfolding rechecking_decided
  decided_list_fits = fits_still by_deciding deciding_keeps_1 work larger more deciding_right catalogue

  -- "`recheck_decided` with more room lists no pair that it didn't list before": by the two numbers in front of its record
  pub no_more_undecided : (list other : List ℕ)
      → (rechecking_decided catalogue work list).number ≡ 0 → (rechecking_decided catalogue larger other).number ≡ 0
      → (x : List ℕ) → Memᴰ x (records_written by_deciding (rechecking_decided catalogue larger other))
      → (y : List ℕ) × Memᴰ y (records_written by_deciding (rechecking_decided catalogue work list)) × (take 2 y ≡ take 2 x)
  unfolding rechecking_decided
  no_more_undecided = listed_before by_deciding deciding_keeps_1 work larger more deciding_right catalogue
