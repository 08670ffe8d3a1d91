-- "K11 takes 51 in as well, for the same third buffer too": for the same sheet, answer buffer and third buffer, if some room gives 0, 1, 19, 20 or 51,
-- then any larger room gives the same numbers and bytes.
--   steps_stand : room_of work ≤ room_of larger → StepsStand sheet answer steps work larger
-- Any number but 18 stands (`steps_any_but_18`), those of a sheet at fault too. The search is the same one (`Searched.larger_room`), and neither what is
-- told of its end nor its way looks at the working buffer.
use Prim.Native.Nat.{ℕ, ◌≤◌}
use native.Mathlib.Omega.{arith}
use mathlib.Core.Path.{◌≡◌, refl, ap, ◌∙◌, subst}
use mathlib.Core.Bool.{true, false, not}
use mathlib.Core.List.{List}
use lib.Dec.{leb, eqb}
use lib.ListN.{length}
use Rattle.paper.specs.Places.{PlaceSet}
use Rattle.paper.specs.Search.{End, found, used_up, no_room, too_long}
use Rattle.paper.specs.Situation.{Situation, Move, question}
use Rattle.paper.specs.Way.{search_from}
use Rattle.paper.specs.Question.{Question, hidden, acceptor}
use Rattle.paper.specs.Sheet.{Fault, cut_short, wrong_mark, wrong_field, wrong_length, not_one_pattern, too_many_leaves, wrong_token, wrong_edition, stray_pattern}
use Rattle.paper.specs.Sheet.{fault_number, Reading, refused, asked, read_sheet}
use Rattle.paper.specs.Outcome.{room_of, searched, records, cleared, clash, answered, count_of, how_of}
use Rattle.paper.proofs.base.Tests.{by_bool, cond_by, true_false, neq_eqb}
use Rattle.paper_laws.proofs.search.Searched
use Rattle.paper_laws.proofs.sheets.QuestionSearched.{equal, same}
use Rattle.paper_laws.proofs.sheets.Rows.{fault_above}
use Rattle.paper_steps.specs.StepsOutcome.{StepsOutcome, end_steps, with_steps, steps_outcome_of, steps_outcome}
use Rattle.paper_steps.specs.StepsPromised.{steps_settle, SameSteps, StepsStand}

-- In a larger room a search that did not end without room is the same search.
searched_larger : (q : Question) (room larger : ℕ) → room ≤ larger → (how_of (searched q room) ≡ no_room → ⊥) → searched q larger ≡ searched q room
unfolding how_of searched search_from
searched_larger q room larger h n =
    Searched.larger_room _ _ _ (equal q) (same q) room (question (acceptor q) q.left q.right) larger h n

-- two outcomes that differ in their working buffers alone
abbrev outcome_with : ℕ → ℕ → ℕ → ℕ → ℕ → List ℕ → List ℕ → List ℕ → StepsOutcome
outcome_with m c p w b answer steps work =
    record { number = m; count = c; place = p; written = w; step_bytes = b; answer = answer; work = work; steps = steps }

all_alike : {m c p w b : ℕ} {answer steps work larger : List ℕ} → SameSteps (outcome_with m c p w b answer steps work) (outcome_with m c p w b answer steps larger)
all_alike = record { number = refl; count = refl; place = refl; written = refl; step_bytes = refl; answer = refl; steps = refl }

-- What is told of an end, for two working buffers.
module _ (q : Question) (n : ℕ) (answer steps : List ℕ) where
  abbrev told : End (Situation PlaceSet) Move → List ℕ → StepsOutcome
  told x work = with_steps (end_steps x) (answered q n x work answer) answer steps

  told_alike : (x : End (Situation PlaceSet) Move) (work larger : List ℕ) → SameSteps (told x work) (told x larger)
  unfolding clash with_steps
  told_alike (found e) work larger =
      by_bool (not (leb (length (records q e)) (length answer)))
      (λ k. rw k all_alike)
      (λ k. rw k
      (by_bool (not (leb (length (end_steps (found e))) (length steps)))
      (λ h. rw h all_alike)
      (λ h. rw h all_alike)))
  told_alike used_up work larger = all_alike
  told_alike no_room work larger = all_alike
  told_alike too_long work larger = all_alike

  full : (work : List ℕ) → (told no_room work).number ≡ 18
  unfolding with_steps
  full work = refl

  zero_after : (x : End (Situation PlaceSet) Move) (work : List ℕ) → (told x work).work ≡ cleared work
  unfolding clash with_steps
  zero_after (found e) work =
      by_bool (not (leb (length (records q e)) (length answer)))
      (λ k. rw k)
      (λ k. rw k
      (cond_by (λ (o : StepsOutcome). o.work ≡ cleared work) (not (leb (length (end_steps (found e))) (length steps))) (λ _. refl) (λ _. refl)))
  zero_after used_up work = refl
  zero_after no_room work = refl
  zero_after too_long work = refl

-- A sheet at fault is not searched, and its number is none of these.
fault_settles_not : (x : Fault) → steps_settle (fault_number x) ≡ false
fault_settles_not cut_short = refl
fault_settles_not wrong_mark = refl
fault_settles_not wrong_field = refl
fault_settles_not wrong_length = refl
fault_settles_not not_one_pattern = refl
fault_settles_not too_many_leaves = refl
fault_settles_not wrong_token = refl
fault_settles_not wrong_edition = refl
fault_settles_not stray_pattern = refl

fault_not_0 : (x : Fault) → eqb (fault_number x) 0 ≡ false
fault_not_0 x = let low = fault_above x in neq_eqb (fault_number x) 0 (λ (z : fault_number x ≡ 0). omega arith)

-- For every reading.
module _ (work larger answer steps : List ℕ) where
  fault_told : (x : Fault) (at : ℕ) → SameSteps (steps_outcome_of (refused x at) work answer steps) (steps_outcome_of (refused x at) larger answer steps)
  unfolding with_steps
  fault_told x at = rw (fault_not_0 x) all_alike

  fault_number_not : (x : Fault) (at : ℕ) → steps_settle (steps_outcome_of (refused x at) work answer steps).number ≡ false
  unfolding with_steps
  fault_number_not x at = rw (fault_not_0 x) (fault_settles_not x)

  reading_stands : (r : Reading) → room_of work ≤ room_of larger → ((steps_outcome_of r work answer steps).number ≡ 18 → ⊥)
      → SameSteps (steps_outcome_of r work answer steps) (steps_outcome_of r larger answer steps)
  reading_stands (refused x at) h n = fault_told x at
  reading_stands (asked q) h n =
      let st = searched (hidden q) (room_of work) in
      let has_room : how_of st ≡ no_room → ⊥ =
      λ e. n (ap (λ (x : End (Situation PlaceSet) Move). (told (hidden q) (count_of st) answer steps x work).number) e ∙ full (hidden q) (count_of st) answer steps work) in
      rw (searched_larger (hidden q) (room_of work) (room_of larger) h has_room)
      (told_alike (hidden q) (count_of st) answer steps (how_of st) work larger)

  reading_zero : (r : Reading) → steps_settle (steps_outcome_of r work answer steps).number ≡ true → (steps_outcome_of r larger answer steps).work ≡ cleared larger
  reading_zero (refused x at) h = absurd (true_false h (fault_number_not x at))
  reading_zero (asked q) h =
      let st = searched (hidden q) (room_of larger) in zero_after (hidden q) (count_of st) answer steps (how_of st) larger

settled_not_18 : (n : ℕ) → steps_settle n ≡ true → n ≡ 18 → ⊥
settled_not_18 n h e = true_false (subst (λ (m : ℕ). steps_settle m ≡ true) e h) refl

-- For all sheets and buffers.
module _ (sheet answer steps work larger : List ℕ) where
  -- Any number but 18 stands.
  pub steps_any_but_18 : room_of work ≤ room_of larger → ((steps_outcome sheet work answer steps).number ≡ 18 → ⊥)
      → SameSteps (steps_outcome sheet work answer steps) (steps_outcome sheet larger answer steps)
  unfolding steps_outcome
  steps_any_but_18 = reading_stands work larger answer steps (read_sheet sheet)

  -- 0, 1, 19, 20 and 51 stand.
  pub steps_stand : room_of work ≤ room_of larger → StepsStand sheet answer steps work larger
  unfolding steps_outcome
  steps_stand h =
      record {
        same = λ s. reading_stands work larger answer steps (read_sheet sheet) h (settled_not_18 (steps_outcome_of (read_sheet sheet) work answer steps).number s);
        all_zero = reading_zero work larger answer steps (read_sheet sheet);
      }
