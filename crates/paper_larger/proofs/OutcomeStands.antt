-- "for the same sheet and the same answer buffer, if some room gives 0, 1, 19 or 20, then any larger room gives the same answer, count and bytes"
--   old_stands : room_of work ≤ room_of larger → OldStands sheet answer work larger
--   any_but_18 : any number but 18 stands, those of a sheet at fault too
--   same_room  : two working buffers of the same room give the same, whatever the number is
-- The search is the same one (`SearchedLarger`), and what is told of its end does not look at the working buffer.
use Prim.Native.Nat.{ℕ, ◌≤◌}
use mathlib.Core.Path.{◌≡◌, refl, ap, subst}
use mathlib.Core.Bool.{true, false, not}
use mathlib.Core.List.{List}
use lib.Dec.{leb}
use lib.ListN.{length}
use Rattle.paper.specs.Places.{PlaceSet}
use Rattle.paper.specs.Search.{End, found, used_up, no_room, too_long}
use Rattle.paper.specs.Situation.{Situation, Move}
use Rattle.paper.specs.Question.{Question, hidden}
use Rattle.paper.specs.Sheet.{Fault, cut_short, wrong_mark, wrong_field, wrong_length, not_one_pattern, too_many_leaves, wrong_token, wrong_edition, stray_pattern}
use Rattle.paper.specs.Sheet.{fault_number, Reading, refused, asked, read_sheet}
use Rattle.paper.specs.Outcome.{Outcome, room_of, searched, records, cleared, clash, answered, count_of, how_of, outcome_of, outcome}
use Rattle.paper.proofs.base.Tests.{by_bool, cond_by, true_false}
use Rattle.paper_larger.specs.Stands.{settles, SameTold, OldStands}
use Rattle.paper_larger.proofs.SearchedLarger.{searched_larger}

-- What is told of an end, for two working buffers.
module _ (q : Question) (n : ℕ) (answer : List ℕ) where
  pub told_alike : (x : End (Situation PlaceSet) Move) (work larger : List ℕ) → SameTold (answered q n x work answer) (answered q n x larger answer)
  unfolding clash
  told_alike (found e) work larger =
      by_bool (not (leb (length (records q e)) (length answer)))
      (λ k. rw k (record { number = refl; count = refl; place = refl; written = refl; answer = refl }))
      (λ k. rw k (record { number = refl; count = refl; place = refl; written = refl; answer = refl }))
  told_alike used_up work larger = record { number = refl; count = refl; place = refl; written = refl; answer = refl }
  told_alike no_room work larger = record { number = refl; count = refl; place = refl; written = refl; answer = refl }
  told_alike too_long work larger = record { number = refl; count = refl; place = refl; written = refl; answer = refl }

  zero_after : (x : End (Situation PlaceSet) Move) (work : List ℕ) → (answered q n x work answer).work ≡ cleared work
  unfolding clash
  zero_after (found e) work =
      cond_by (λ (o : Outcome). o.work ≡ cleared work) (not (leb (length (records q e)) (length answer))) (λ _. refl) (λ _. refl)
  zero_after used_up work = refl
  zero_after no_room work = refl
  zero_after too_long work = refl

-- A sheet at fault is not searched, and its number is none of these.
fault_settles_not : (x : Fault) → settles (fault_number x) ≡ false
fault_settles_not cut_short = refl
fault_settles_not wrong_mark = refl
fault_settles_not wrong_field = refl
fault_settles_not wrong_length = refl
fault_settles_not not_one_pattern = refl
fault_settles_not too_many_leaves = refl
fault_settles_not wrong_token = refl
fault_settles_not wrong_edition = refl
fault_settles_not stray_pattern = refl

settled_not_18 : (n : ℕ) → settles n ≡ true → n ≡ 18 → ⊥
settled_not_18 n h e = true_false (subst (λ (m : ℕ). settles m ≡ true) e h) refl

-- For every reading.
module _ (work larger answer : List ℕ) where
  pub reading_stands : (r : Reading) → room_of work ≤ room_of larger → ((outcome_of r work answer).number ≡ 18 → ⊥)
      → SameTold (outcome_of r work answer) (outcome_of r larger answer)
  reading_stands (refused x at) h n = record { number = refl; count = refl; place = refl; written = refl; answer = refl }
  reading_stands (asked q) h n =
      let st = searched (hidden q) (room_of work) in
      let has_room : how_of st ≡ no_room → ⊥ =
      λ e. n (ap (λ (x : End (Situation PlaceSet) Move). (answered (hidden q) (count_of st) x work answer).number) e) in
      rw (searched_larger (hidden q) (room_of work) (room_of larger) h has_room)
      (told_alike (hidden q) (count_of st) answer (how_of st) work larger)

  reading_alike : (r : Reading) → room_of work ≡ room_of larger → SameTold (outcome_of r work answer) (outcome_of r larger answer)
  reading_alike (refused x at) e = record { number = refl; count = refl; place = refl; written = refl; answer = refl }
  reading_alike (asked q) e =
      let st = searched (hidden q) (room_of larger) in
      rw e (told_alike (hidden q) (count_of st) answer (how_of st) work larger)

  reading_zero : (r : Reading) → settles (outcome_of r work answer).number ≡ true → (outcome_of r larger answer).work ≡ cleared larger
  reading_zero (refused x at) h = absurd (true_false h (fault_settles_not x))
  reading_zero (asked q) h =
      let st = searched (hidden q) (room_of larger) in zero_after (hidden q) (count_of st) answer (how_of st) larger

-- For all sheets and buffers.
module _ (sheet answer work larger : List ℕ) where
  -- Any number but 18 stands.
  pub any_but_18 : room_of work ≤ room_of larger → ((outcome sheet work answer).number ≡ 18 → ⊥)
      → SameTold (outcome sheet work answer) (outcome sheet larger answer)
  unfolding outcome
  any_but_18 = reading_stands work larger answer (read_sheet sheet)

  -- "any larger room gives the same answer, count and bytes"
  pub old_stands : room_of work ≤ room_of larger → OldStands sheet answer work larger
  unfolding outcome
  old_stands h =
      record {
        same = λ s. reading_stands work larger answer (read_sheet sheet) h (settled_not_18 (outcome_of (read_sheet sheet) work answer).number s);
        all_zero = reading_zero work larger answer (read_sheet sheet);
      }

  -- The same room gives the same: 18 too, and every fault.
  pub same_room : room_of work ≡ room_of larger → SameTold (outcome sheet work answer) (outcome sheet larger answer)
  unfolding outcome
  same_room = reading_alike work larger answer (read_sheet sheet)
