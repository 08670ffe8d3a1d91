-- Demand 1: for every reading and all buffers, lists of bytes, the outcome of 01 meets it. A sheet's is an instance: from bytes to bytes. What it
-- says stands in specs/Buffers: one of the numbered answers, and what place, count and both buffers are for each.
-- Follows from the definition of the outcome, test by test.
use Prim.Native.Nat.{ℕ}
use native.Mathlib.Omega.{arith}
use mathlib.Core.Path.{◌≡◌, refl}
use mathlib.Core.Bool.{true, false≢true, not}
use mathlib.Core.List.{List, ◌++◌}
use lib.Dec.{leb}
use lib.ListN.{length}
use Rattle.paper.specs.Lists.{member}
use Rattle.paper.specs.Places.{PlaceSet}
use Rattle.paper.specs.Search.{Entry, End, found, used_up, no_room, too_long}
use Rattle.paper.specs.Situation.{Situation, Move}
use Rattle.paper.specs.Question.{Question, hidden}
use Rattle.paper.specs.Sheet.{Fault, cut_short, wrong_mark, wrong_field, wrong_length, not_one_pattern, too_many_leaves, wrong_token, wrong_edition, stray_pattern}
use Rattle.paper.specs.Sheet.{fault_number, Reading, refused, asked, read_sheet}
use Rattle.paper.specs.Outcome.{Outcome, room_of, searched, records, without_bytes, clash, answered, count_of, how_of}
use Rattle.paper.specs.Outcome.{outcome_of, outcome}
use Rattle.paper.specs.Buffers.{search_numbers, sheet_numbers, Demand1}
use Rattle.paper.proofs.base.Tests.{cond_by}

-- a fault's number is none of the search's
fault_numbered : (x : Fault) → (member (fault_number x) (search_numbers ++ sheet_numbers) ≡ true) × (member (fault_number x) search_numbers ≡ true → ⊥)
fault_numbered cut_short = (refl, false≢true)
fault_numbered wrong_mark = (refl, false≢true)
fault_numbered wrong_field = (refl, false≢true)
fault_numbered wrong_length = (refl, false≢true)
fault_numbered not_one_pattern = (refl, false≢true)
fault_numbered too_many_leaves = (refl, false≢true)
fault_numbered wrong_token = (refl, false≢true)
fault_numbered wrong_edition = (refl, false≢true)
fault_numbered stray_pattern = (refl, false≢true)

module _ (work answer : List ℕ) where
  fault_met : (x : Fault) (at : ℕ) → Demand1 (refused x at) work answer (outcome_of (refused x at) work answer)
  fault_met x at =
      let (numbered, not-search) = fault_numbered x in
      record {
        numbered = numbered;
        no_byte = λ _. record { written = refl; unchanged = refl };
        after_search = λ h. absurd (not-search h);
        after_fault = λ _. record { count = refl; unchanged = refl };
        first_fault = λ y from e. (cc, cc);
      }

  module _ (q : Question) where
    abbrev Met : Outcome → Type 0
    Met o = Demand1 (asked q) work answer o

    no_fault : (x : Fault) (at : ℕ) → asked q ≡ refused x at → ⊥
    no_fault x at e = let z : ◌≡◌ {A = ℕ} 0 1 = cc in omega arith

    without_met : (n c : ℕ) → member n (search_numbers ++ sheet_numbers) ≡ true → (member n sheet_numbers ≡ true → ⊥) → Met (without_bytes n c work answer)
    without_met n c numbered not-sheet =
        record {
          numbered = numbered;
          no_byte = λ _. record { written = refl; unchanged = refl };
          after_search = λ _. record { place = refl; all_zero = refl };
          after_fault = λ h. absurd (not-sheet h);
          first_fault = λ x at e. absurd (no_fault x at e);
        }

    clash_met : (c : ℕ) (e : Entry (Situation PlaceSet) Move) → Met (clash (hidden q) c e work answer)
    unfolding clash
    clash_met c e =
        cond_by Met (not (leb (length (records (hidden q) e)) (length answer))) (λ _. without_met 20 c refl false≢true)
        (λ _. record {
          numbered = refl;
          no_byte = λ h. absurd (h refl);
          after_search = λ _. record { place = refl; all_zero = refl };
          after_fault = λ h. absurd (false≢true h);
          first_fault = λ x at i. absurd (no_fault x at i);
        })

    pub answered_met : (c : ℕ) (x : End (Situation PlaceSet) Move) → Met (answered (hidden q) c x work answer)
    answered_met c (found e) = clash_met c e
    answered_met c used_up = without_met 1 c refl false≢true
    answered_met c no_room = without_met 18 c refl false≢true
    answered_met c too_long = without_met 19 c refl false≢true

-- For every reading and all buffers.
pub demand_1 : (r : Reading) (work answer : List ℕ) → Demand1 r work answer (outcome_of r work answer)
demand_1 (refused x at) work answer = fault_met work answer x at
demand_1 (asked q) work answer =
    let st = searched (hidden q) (room_of work) in answered_met work answer q (count_of st) (how_of st)

-- For all sheets and buffers.
pub sheet_demand_1 : (sheet work answer : List ℕ) → Demand1 (read_sheet sheet) work answer (outcome sheet work answer)
unfolding outcome
sheet_demand_1 sheet = demand_1 (read_sheet sheet)
