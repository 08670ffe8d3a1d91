-- A catalogue in a larger room, by 01's search.
--   pair_stands     : a pair answered 0, 1 or 19 keeps its answer and its count
--   entered_stands  : so a rule that was entered is entered by a larger working buffer too, with the same bytes
--   listed_fits     : a list of pairs that fitted into its buffer fits
--   no_more_listed  : checking again with more room lists no pair that it didn't list before,
--   record_stays    : and a pair that was listed with 0 or 19 is listed again, with the same five bytes
-- Follows from `SearchedLarger` and from `CatalogueLarger`.
use Prim.Native.Nat.{ℕ, ◌+◌, ◌≤◌}
use mathlib.Core.Path.{◌≡◌, refl, sym, ap, ◌∙◌, subst}
use mathlib.Core.Bool.{true}
use mathlib.Core.List.{List, Memᴰ}
use lib.ListN.{get_or, take}
use Rattle.paper.specs.Question.{hidden}
use Rattle.paper.specs.Rule.{Rule, pair}
use Rattle.paper.specs.Outcome.{room_of, searched}
use Rattle.paper.proofs.base.Tests.{true_false}
use Rattle.paper_catalogue.specs.PairAsking.{PairAnswered, pair_number, pair_answer, pair_count, record_by, by_search}
use Rattle.paper_catalogue.specs.Catalogue.{Present, adding}
use Rattle.paper_catalogue.specs.Calls.{rule_at}
use Rattle.paper_catalogue.specs.Recheck.{rechecking}
use Rattle.paper_catalogue.proofs.RightAsking.{search_right}
use Rattle.paper_catalogue.proofs.Rechecked.{NotAnswered1, records_written, rechecks}
use Rattle.paper_larger.specs.Stands.{pair_settles, PairStands, EnteredToo}
use Rattle.paper_larger.proofs.SearchedLarger.{searched_larger}
use Rattle.paper_larger.proofs.CatalogueLarger.{Keeps1, entered_larger, fits_still, listed_before}

module _ (r s : Rule) (room larger : ℕ) (more : room ≤ larger) where
  -- A pair that is not answered 18 is searched alike.
  same_search : (pair_answer r s room ≡ 18 → ⊥) → searched (hidden (pair r s)) larger ≡ searched (hidden (pair r s)) room
  unfolding pair_answer
  same_search n = searched_larger (hidden (pair r s)) room larger more (λ e. n (ap pair_number e))

  same_answered : (pair_answer r s room ≡ 18 → ⊥) → by_search.asks r s larger ≡ by_search.asks r s room
  unfolding pair_answer pair_count
  same_answered n = rw (same_search n)

  not_18 : pair_settles (pair_answer r s room) ≡ true → pair_answer r s room ≡ 18 → ⊥
  not_18 h e = true_false (subst (λ (m : ℕ). pair_settles m ≡ true) e h) refl

  -- "a pair of a catalogue answered 0, 1 or 19 keeps its answer and count in any larger room"
  pub pair_stands : PairStands r s room larger
  pair_stands =
      record {
        answer = λ h. ap (λ (p : PairAnswered). p.answer) (same_answered (not_18 h));
        count = λ h. ap (λ (p : PairAnswered). p.count) (same_answered (not_18 h));
      }

search_keeps_1 : Keeps1 by_search
search_keeps_1 r s good-r good-s work larger more e =
    (pair_stands r s (room_of work) (room_of larger) more).answer (rw e) ∙ e

module _ (work larger : List ℕ) (more : room_of work ≤ room_of larger) (catalogue : List ℕ) where
  -- "so a rule that was entered is entered by a larger working buffer too, with the same bytes"
  pub entered_stands : (bytes : List ℕ) → (adding catalogue bytes work).number ≡ 0
      → EnteredToo catalogue larger (adding catalogue bytes work) (adding catalogue bytes larger)
  unfolding adding
  entered_stands bytes = entered_larger by_search search_keeps_1 work larger more catalogue bytes

  -- A list that fitted into its buffer fits.
  pub listed_fits : (list : List ℕ) → (rechecking catalogue work list).number ≡ 0 → (rechecking catalogue larger list).number ≡ 0
  unfolding rechecking
  listed_fits = fits_still by_search search_keeps_1 work larger more search_right catalogue

  module _ (list other : List ℕ) (fits : (rechecking catalogue work list).number ≡ 0) (other_fits : (rechecking catalogue larger other).number ≡ 0) where
    -- "checking again with more room lists no pair that it didn't list before": by the two numbers in front of its record
    pub no_more_listed : (x : List ℕ) → Memᴰ x (records_written by_search (rechecking catalogue larger other))
        → (y : List ℕ) × Memᴰ y (records_written by_search (rechecking catalogue work list)) × (take 2 y ≡ take 2 x)
    unfolding rechecking
    no_more_listed = listed_before by_search search_keeps_1 work larger more search_right catalogue list other fits other_fits

    -- the record's third byte is the pair's answer
    stays : (l : List Present) (y : List ℕ) → (get_or y 2 0 ≡ 18 → ⊥) → NotAnswered1 by_search (room_of work) 0 l y
        → NotAnswered1 by_search (room_of larger) 0 l y
    stays l y n b =
        let r = rule_at l b.lower in
        let s = rule_at l b.higher in
        let same = same_answered r s (room_of work) (room_of larger) more (λ e. n (ap (λ (x : List ℕ). get_or x 2 0) b.its_record ∙ e)) in
        record {
          lower = b.lower;
          higher = b.higher;
          below = b.below;
          there = b.there;
          not_1 = λ e. b.not_1 (ap (λ (p : PairAnswered). p.answer) (sym same) ∙ e);
          its_record = b.its_record ∙ sym (ap (record_by by_search (0 + b.lower) (0 + b.higher)) same);
        }

    -- What was listed with 0 or 19 is listed again, with the same bytes.
    pub record_stays : (y : List ℕ) → (get_or y 2 0 ≡ 18 → ⊥) → Memᴰ y (records_written by_search (rechecking catalogue work list))
        → Memᴰ y (records_written by_search (rechecking catalogue larger other))
    unfolding rechecking
    record_stays y n d =
        let before = rechecks by_search search_right catalogue work list fits in
        let after = rechecks by_search search_right catalogue larger other other_fits in
        let same : before.rules_present ≡ after.rules_present = cc (before.of_form, after.of_form) in
        after.all_listed y
        (subst (λ (l : List Present). NotAnswered1 by_search (room_of larger) 0 l y) same
        (stays before.rules_present y n (before.listed_only y d)))
