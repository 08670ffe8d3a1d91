-- The rows of 01's table of answers: how each number comes about, as a relation without a test, and how to read it.
-- Every outcome is in one of the rows. Follows from the definition of the outcome, test by test.
use Prim.Native.Nat.{ℕ, ◌≤◌, ◌<◌}
use native.Mathlib.Omega.{arith}
use mathlib.Core.Path.{◌≡◌, refl, ap, subst}
use mathlib.Core.Bool.{true, not}
use mathlib.Core.List.{List, [], ◌∷◌, ◌++◌}
use lib.Dec.{leb}
use lib.ListN.{length, drop}
use Rattle.paper.specs.Lists.{each, member}
use Rattle.paper.proofs.base.Tests.{by_bool, cond_by, not_is_true, not_is_false, leb_true, leb_false}
use Rattle.paper.specs.Places.{PlaceSet}
use Rattle.paper.specs.Search.{Entry, End, found, used_up, no_room, too_long}
use Rattle.paper.specs.Situation.{Situation, Move}
use Rattle.paper.specs.Question.{Question, hidden}
use Rattle.paper.specs.Sheet.{Fault, cut_short, wrong_mark, wrong_field, wrong_length, not_one_pattern, too_many_leaves, wrong_token, wrong_edition, stray_pattern}
use Rattle.paper.specs.Sheet.{fault_number, Reading, refused, asked}
use Rattle.paper.specs.Outcome.{Outcome, room_of, searched, value_record, records, clash, answered, count_of, outcome_of}
use Rattle.paper.specs.Buffers.{sheet_numbers}
use Rattle.paper.specs.Demands.{Good, end_of, texts_spelt, records_of, demanded_number}
use Rattle.paper_laws.proofs.sheets.Hidden.{standing_hidden}

pub fault_numbered : (x : Fault) → member (fault_number x) sheet_numbers ≡ true
fault_numbered cut_short = refl
fault_numbered wrong_mark = refl
fault_numbered wrong_field = refl
fault_numbered wrong_length = refl
fault_numbered not_one_pattern = refl
fault_numbered too_many_leaves = refl
fault_numbered wrong_token = refl
fault_numbered wrong_edition = refl
fault_numbered stray_pattern = refl

-- none is below 11
pub fault_above : (x : Fault) → 11 ≤ fault_number x
fault_above cut_short = omega arith
fault_above wrong_mark = omega arith
fault_above wrong_field = omega arith
fault_above wrong_length = omega arith
fault_above not_one_pattern = omega arith
fault_above too_many_leaves = omega arith
fault_above wrong_token = omega arith
fault_above wrong_edition = omega arith
fault_above stray_pattern = omega arith

-- the records of the texts that the way to an entry spells
abbrev pub found_records : Question → Entry (Situation PlaceSet) Move → List ℕ
found_records q e = records_of q (texts_spelt (hidden q) e)

pub records_hidden : (q : Question) (e : Entry (Situation PlaceSet) Move) → records (hidden q) e ≡ found_records q e
unfolding records
records_hidden q e = ap (each (λ (f : ℕ). value_record f (texts_spelt (hidden q) e f))) (standing_hidden q)

module _ (r : Reading) (work answer : List ℕ) where
  -- the rows of the table, by their number
  pub data Row (o : Outcome) : ℕ → Type 0 where
    faulty : {n : ℕ} (x : Fault) (at : ℕ) → r ≡ refused x at → member n sheet_numbers ≡ true → o.count ≡ 0 → Row o n
    clashes : (q : Question) (e : Entry (Situation PlaceSet) Move) → Good r q → end_of (hidden q) work ≡ found e
        → length (found_records q e) ≤ length answer
        → o.written ≡ length (found_records q e) → o.answer ≡ found_records q e ++ drop (length (found_records q e)) answer → Row o 0
    clashes_not : (q : Question) → Good r q → end_of (hidden q) work ≡ used_up → Row o 1
    has_no_room : (q : Question) → Good r q → end_of (hidden q) work ≡ no_room → Row o 18
    is_too_long : (q : Question) → Good r q → end_of (hidden q) work ≡ too_long → Row o 19
    is_too_short : (q : Question) (e : Entry (Situation PlaceSet) Move) → Good r q → end_of (hidden q) work ≡ found e
        → length answer < length (found_records q e) → Row o 20

  abbrev InRow : Outcome → Type 0
  InRow o = Row o o.number

  clash_in_row : (q : Question) (n : ℕ) (e : Entry (Situation PlaceSet) Move) → Good r q → end_of (hidden q) work ≡ found e
      → InRow (clash (hidden q) n e work answer)
  unfolding clash
  clash_in_row q n e g h =
      let bytes = found_records q e in
      rw (records_hidden q e)
      (cond_by InRow (not (leb (length bytes) (length answer)))
      (λ k. is_too_short q e g h (leb_false (length bytes) (length answer) (not_is_true k)))
      (λ k. clashes q e g h (leb_true (length bytes) (length answer) (not_is_false k)) refl refl))

  end_in_row : (q : Question) (n : ℕ) (x : End (Situation PlaceSet) Move) → Good r q → end_of (hidden q) work ≡ x
      → InRow (answered (hidden q) n x work answer)
  end_in_row q n (found e) g h = clash_in_row q n e g h
  end_in_row q n used_up g h = clashes_not q g h
  end_in_row q n no_room g h = has_no_room q g h
  end_in_row q n too_long g h = is_too_long q g h

reading_in_row : (r : Reading) (work answer : List ℕ) → InRow r work answer (outcome_of r work answer)
reading_in_row (refused x at) work answer = faulty x at refl (fault_numbered x) refl
reading_in_row (asked q) work answer =
    end_in_row (asked q) work answer q (count_of (searched (hidden q) (room_of work))) (end_of (hidden q) work) refl refl

pub in_row : (r : Reading) (work answer : List ℕ) (n : ℕ) → (outcome_of r work answer).number ≡ n → Row r work answer (outcome_of r work answer) n
in_row r work answer n e = subst (Row r work answer (outcome_of r work answer)) e (reading_in_row r work answer)

-- The number and the count of a good reading are those of the search.
clash_number : (q : Question) (n : ℕ) (e : Entry (Situation PlaceSet) Move) (work answer : List ℕ)
    → ((clash (hidden q) n e work answer).number ≡ demanded_number q answer (found e)) × ((clash (hidden q) n e work answer).count ≡ n)
unfolding clash
clash_number q n e work answer =
    rw (records_hidden q e)
    (by_bool (leb (length (found_records q e)) (length answer)) (λ k. rw k (refl, refl)) (λ k. rw k (refl, refl)))

end_number : (q : Question) (n : ℕ) (x : End (Situation PlaceSet) Move) (work answer : List ℕ)
    → ((answered (hidden q) n x work answer).number ≡ demanded_number q answer x) × ((answered (hidden q) n x work answer).count ≡ n)
end_number q n (found e) work answer = clash_number q n e work answer
end_number q n used_up work answer = (refl, refl)
end_number q n no_room work answer = (refl, refl)
end_number q n too_long work answer = (refl, refl)

pub good_outcome : (r : Reading) (work answer : List ℕ) (q : Question) → Good r q
    → ((outcome_of r work answer).number ≡ demanded_number q answer (end_of (hidden q) work))
    × ((outcome_of r work answer).count ≡ count_of (searched (hidden q) (room_of work)))
good_outcome r work answer q g =
    rw g (end_number q (count_of (searched (hidden q) (room_of work))) (end_of (hidden q) work) work answer)

-- So the number is one of the search's.
abbrev OfSearch : ℕ → Type 0
OfSearch n = member n (0 ∷ 1 ∷ 18 ∷ 19 ∷ 20 ∷ []) ≡ true

pub number_of_search : (q : Question) (answer : List ℕ) (x : End (Situation PlaceSet) Move) → OfSearch (demanded_number q answer x)
number_of_search q answer (found e) = cond_by OfSearch (leb (length (found_records q e)) (length answer)) (λ _. refl) (λ _. refl)
number_of_search q answer used_up = refl
number_of_search q answer no_room = refl
number_of_search q answer too_long = refl

-- A reading that is not good has no search.
pub refused_outcome : (r : Reading) (work answer : List ℕ) (x : Fault) (at : ℕ) → r ≡ refused x at
    → (member (outcome_of r work answer).number sheet_numbers ≡ true) × ((outcome_of r work answer).count ≡ 0)
refused_outcome r work answer x at e = rw e (fault_numbered x, refl)

pub refused_number : (r : Reading) (work answer : List ℕ) (x : Fault) (at : ℕ) → r ≡ refused x at → (outcome_of r work answer).number ≡ fault_number x
refused_number r work answer x at e = rw e

-- A reading is refused or good.
pub by_reading : {C : Type 0} (r : Reading) → ((x : Fault) (at : ℕ) → r ≡ refused x at → C) → ((q : Question) → Good r q → C) → C
by_reading (refused x at) f g = f x at refl
by_reading (asked q) f g = g q refl
