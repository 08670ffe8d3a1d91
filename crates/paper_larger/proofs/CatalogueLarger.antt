-- A catalogue in a larger room, by any way to ask a pair that keeps its 1 there (`Keeps1`).
--   entered_larger : a rule that was entered is entered, with the same bytes
--   fits_still     : a list of pairs that was not too long for its buffer is not too long for it
--   listed_before  : checking again lists no pair that it didn't list before
-- Follows from the laws of adding and of checking again (`Adding`, `Rechecked`), since every rule that stands and every rule that is read is good.
use Prim.Native.Nat.{ℕ, suc, ◌+◌, ◌≤◌, ◌<◌}
use native.Mathlib.Omega.{arith}
use mathlib.Core.Path.{◌≡◌, refl, sym, ap, subst}
use mathlib.Core.List.{List, [], ◌∷◌, Memᴰ}
use lib.Dec.{ltb, eqb}
use lib.ListN.{length, take, length-append}
use Rattle.paper.specs.Rule.{Rule}
use Rattle.paper.specs.Outcome.{room_of}
use Rattle.paper.proofs.base.Tests.{by_bool, cond_by, eqb_true, eq_eqb, ltb_false, le_ltb}
use Rattle.paper.proofs.base.Listed.{get_or_mem}
use Rattle.paper_catalogue.specs.PairAsking.{PairAsking, record_by}
use Rattle.paper_catalogue.specs.Catalogue.{Present, Form, no_catalogue, rules, form, adding_by, work_behind}
use Rattle.paper_catalogue.specs.Calls.{behind_last, rule_at}
use Rattle.paper_catalogue.specs.Recheck.{pair_listed_by, listed_with_by, listed_from_by, Rechecked, rechecked_of, rechecking_by}
use Rattle.paper_catalogue.proofs.GoodRule.{GoodRule, new_good, present_good}
use Rattle.paper_catalogue.proofs.RightAsking.{AsksRight}
use Rattle.paper_catalogue.proofs.Adding.{Enters, entered, enters, added}
use Rattle.paper_catalogue.proofs.Rechecked.{NotAnswered1, records_written, rechecks}
use Rattle.paper_larger.specs.Stands.{EnteredToo}

-- A pair of good rules that is answered 1 is answered 1 in a larger room.
abbrev pub Keeps1 : PairAsking → Type 0
Keeps1 a = (r s : Rule) → GoodRule r → GoodRule s → (work larger : List ℕ) → room_of work ≤ room_of larger
    → (a.asks r s (room_of work)).answer ≡ 1 → (a.asks r s (room_of larger)).answer ≡ 1

-- a rule that stands in a catalogue, by its number
stands_good : (catalogue : List ℕ) {l : List Present} → form catalogue ≡ rules l → (i : ℕ) → i < length l → GoodRule (rule_at l i)
stands_good catalogue {l} e i h = present_good catalogue e _ (get_or_mem l behind_last i h)

module _ (a : PairAsking) (keeps : Keeps1 a) (work larger : List ℕ) (more : room_of work ≤ room_of larger) where
  module _ (c bytes : List ℕ) where
    still_enters : Enters a c bytes work → Enters a c bytes larger
    still_enters x =
        let l = x.rules_present in
        record {
          rules_present = l;
          of_form = x.of_form;
          rule = x.rule;
          own_bytes = x.own_bytes;
          is_read = x.is_read;
          own_fields = x.own_fields;
          room = x.room;
          answered = λ i h.
              keeps (rule_at l i) x.rule (stands_good c x.of_form i h) (new_good bytes x.is_read x.own_fields) work larger more
              (x.answered i h);
        }

    -- "a rule that was entered is entered by a larger working buffer too, with the same bytes"
    too : (x : Enters a c bytes work) → EnteredToo c larger (added x).added (added (still_enters x)).added
    unfolding still_enters
    too x =
        record {
          number = refl;
          count = refl;
          place = refl;
          rule = refl;
          answer = refl;
          same_bytes = refl;
          work = λ l e. let same : x.rules_present ≡ l = cc (x.of_form, e) in ap (λ (k : List Present). work_behind k larger) same;
        }

    pub entered_larger : (adding_by a c bytes work).added.number ≡ 0
        → EnteredToo c larger (adding_by a c bytes work).added (adding_by a c bytes larger).added
    entered_larger z =
        let x = entered a c bytes work z in
        rw (enters a c bytes work x, enters a c bytes larger (still_enters x)) (too x)

  module _ (right : AsksRight a) where
    -- a pair that is not listed is not listed
    one_fits : (i : ℕ) (r : Rule) (j : ℕ) (s : Rule) → GoodRule r → GoodRule s
        → length (pair_listed_by a i r j s (room_of larger)) ≤ length (pair_listed_by a i r j s (room_of work))
    one_fits i r j s good-r good-s =
        let p = a.asks r s (room_of work) in
        let q = a.asks r s (room_of larger) in
        by_bool (eqb p.answer 1)
        (λ h. rw (eq_eqb q.answer 1 (keeps r s good-r good-s work larger more (eqb_true p.answer 1 h))) (omega arith))
        (λ h. rw h
        (cond_by (λ (l : List ℕ). length l ≤ length (record_by a i j p)) (eqb q.answer 1)
        (λ _. omega arith)
        (λ _. omega (arith, right.one_length i j p, right.one_length i j q))))

    with_fits : (i : ℕ) (r : Rule) (j : ℕ) (l : List Present) → GoodRule r → ((t : Present) → Memᴰ t l → GoodRule t.rule)
        → length (listed_with_by a i r j l (room_of larger)) ≤ length (listed_with_by a i r j l (room_of work))
    with_fits i r j [] good-r good = omega arith
    with_fits i r j (s ∷ l) good-r good =
        let one = one_fits i r j s.rule good-r (good s (Memᴰ.head refl)) in
        let others = with_fits i r (suc j) l good-r (λ t d. good t (Memᴰ.tail d)) in
        omega (
          arith,
          one,
          others,
          length-append (pair_listed_by a i r j s.rule (room_of larger)) (listed_with_by a i r (suc j) l (room_of larger)),
          length-append (pair_listed_by a i r j s.rule (room_of work)) (listed_with_by a i r (suc j) l (room_of work)),
        )

    from_fits : (i : ℕ) (l : List Present) → ((t : Present) → Memᴰ t l → GoodRule t.rule)
        → length (listed_from_by a i l (room_of larger)) ≤ length (listed_from_by a i l (room_of work))
    from_fits i [] good = omega arith
    from_fits i (r ∷ l) good =
        let its = with_fits i r.rule (suc i) l (good r (Memᴰ.head refl)) (λ t d. good t (Memᴰ.tail d)) in
        let others = from_fits (suc i) l (λ t d. good t (Memᴰ.tail d)) in
        omega (
          arith,
          its,
          others,
          length-append (listed_with_by a i r.rule (suc i) l (room_of larger)) (listed_from_by a (suc i) l (room_of larger)),
          length-append (listed_with_by a i r.rule (suc i) l (room_of work)) (listed_from_by a (suc i) l (room_of work)),
        )

    module _ (catalogue : List ℕ) where
      fits_of : (list : List ℕ) (f : Form) → form catalogue ≡ f → (rechecked_of a f work list).number ≡ 0
          → (rechecked_of a f larger list).number ≡ 0
      fits_of list no_catalogue e = λ z. absurd (omega (arith, z))
      fits_of list (rules l) e =
          let before = listed_from_by a 0 l (room_of work) in
          let after = listed_from_by a 0 l (room_of larger) in
          cond_by (λ (o : Rechecked). o.number ≡ 0 → (rechecked_of a (rules l) larger list).number ≡ 0) (ltb (length list) (length before))
          (λ _ z. absurd (omega (arith, z)))
          (λ h _. rw (le_ltb (length list) (length after) (omega (arith, ltb_false (length list) (length before) h, from_fits 0 l (present_good catalogue e)))) refl)

      -- What fitted into the list buffer fits.
      pub fits_still : (list : List ℕ) → (rechecking_by a catalogue work list).number ≡ 0 → (rechecking_by a catalogue larger list).number ≡ 0
      unfolding rechecking_by
      fits_still list = fits_of list (form catalogue) refl

      -- A pair that is not answered 1 in the larger room was not answered 1.
      not_before : {l : List Present} → form catalogue ≡ rules l → (x : List ℕ) → NotAnswered1 a (room_of larger) 0 l x
          → (y : List ℕ) × NotAnswered1 a (room_of work) 0 l y × (take 2 y ≡ take 2 x)
      not_before {l} e x n =
          let r = rule_at l n.lower in
          let s = rule_at l n.higher in
          let good-r = stands_good catalogue e n.lower (omega (arith, n.below, n.there)) in
          let good-s = stands_good catalogue e n.higher n.there in (
            record_by a (0 + n.lower) (0 + n.higher) (a.asks r s (room_of work)),
            record {
              lower = n.lower;
              higher = n.higher;
              below = n.below;
              there = n.there;
              not_1 = λ h. n.not_1 (keeps r s good-r good-s work larger more h);
              its_record = refl;
            },
            sym (ap (take 2) n.its_record),
          )

      -- "checking again with more room lists no pair that it didn't list before": by the two numbers in front of its record
      pub listed_before : (list other : List ℕ)
          → (rechecking_by a catalogue work list).number ≡ 0 → (rechecking_by a catalogue larger other).number ≡ 0
          → (x : List ℕ) → Memᴰ x (records_written a (rechecking_by a catalogue larger other))
          → (y : List ℕ) × Memᴰ y (records_written a (rechecking_by a catalogue work list)) × (take 2 y ≡ take 2 x)
      listed_before list other z w x d =
          let before = rechecks a right catalogue work list z in
          let after = rechecks a right catalogue larger other w in
          let same : after.rules_present ≡ before.rules_present = cc (before.of_form, after.of_form) in
          let (y, n, e) = not_before after.of_form x (after.listed_only x d) in
          (y, before.all_listed y (subst (λ (l : List Present). NotAnswered1 a (room_of work) 0 l y) same n), e)
