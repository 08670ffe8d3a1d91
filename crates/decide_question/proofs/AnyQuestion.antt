-- Of any question, bytes of patterns, number and buffers:
--   own_at_most, own_unchanged : the first search enters at most `most_room` situations; where it does not decide, it leaves the answer buffer as it is
--   test_harmless, text_harmless, characters_harmless : the same of each kind of attempt
-- Follows from the definition of the search over slots, which enters only where there is room, and of how it ends.
use Prim.Native.Nat.{ℕ, zero, suc, ◌-◌, ◌≤◌}
use native.Mathlib.Omega.{arith}
use mathlib.Core.Path.{◌≡◌, refl}
use mathlib.Core.Bool.{Bool, true, false, not}
use mathlib.Core.List.{List, [], ◌∷◌}
use lib.Dec.{leb, ltb}
use lib.ListN.{length, length-append}
use Rattle.paper.specs.Lists.{any}
use Rattle.paper.specs.Numbers.{most_room}
use Rattle.paper.specs.Search.{Child, long, child}
use Rattle.paper.proofs.base.Tests.{cond_by, leb_false, true_false}
use Rattle.base_codes.specs.Coded.{Coded, same_coded}
use Rattle.base_question.specs.declared.Question as Code
use Rattle.base_answers.specs.AnswerNumbers.{number_in_pair}
use Rattle.search_children.specs.Children.{Tables, children_coded}
use Rattle.search_slots.specs.Slots.{Slot, slot_at}
use Rattle.search_records.specs.Records.{answer_given}
use Rattle.std.specs.Prelude.{Option, Some, None}
use Rattle.search_run.specs.Run.{Running, is_going, enter_slot, offer_going, offer_slot, offer_slots, take_slot, slot_turns, slot_search}
use Rattle.search_run.specs.Way.{text_at}
use Rattle.search_run.specs.Ended.{room_for, clash_how, how_by, buffer_by, run_concluded, concluded_buffer, ended_with, buffer_with}
use Rattle.search_run.specs.declared.search.Status.{Status}
use Rattle.search_run.specs.declared.search.Status.TheVariants as Status-as
use Rattle.search_question.specs.Over.{tables_among, first_of, ended_over, buffer_over, tables_all, ended_all, buffer_all}
use Rattle.decide_alike.specs.AlikeCoded.{characters_coded}
use Rattle.decide_texts.specs.TextsCoded.{texts_coded}
use Rattle.decide_question.specs.Attempt.{decides_number, decides_coded, Harmless, by_test, by_text, by_characters}

-- The search over slots stays within its room.
module _ (room : ℕ) where
  abbrev InRoom : Running → Type 0
  InRoom R = length R.slots ≤ room

  enter_in : (ss : List Slot) (s : Slot) → length ss ≤ room → InRoom (enter_slot room ss s)
  unfolding enter_slot
  enter_in ss s h =
      cond_by InRoom (leb room (length ss)) (λ t. h)
      (λ f. rw (length-append ss (s ∷ [])) (omega (arith, leb_false room (length ss) f)))

  going_in : (k : ℕ) (ss : List Slot) (c : Child Coded ℕ) → length ss ≤ room → InRoom (offer_going room k ss c)
  going_in k ss long h = h
  going_in k ss (child m s) h =
      cond_by InRoom (any (λ (x : Slot). same_coded x.at s) ss) (λ t. h)
      (λ f. enter_in ss (record { at = s; parent = k; step = m }) h)

  offer_in : (k : ℕ) (R : Running) (c : Child Coded ℕ) → InRoom R → InRoom (offer_slot room k R c)
  unfolding offer_slot
  offer_in k R c h = cond_by InRoom (is_going R.status) (λ t. going_in k R.slots c h) (λ f. h)

  offers_in : (k : ℕ) (R : Running) (cs : List (Child Coded ℕ)) → InRoom R → InRoom (offer_slots room k R cs)
  offers_in k R [] h = h
  offers_in k R (c ∷ cs) h = offers_in k (offer_slot room k R c) cs (offer_in k R c h)

  module _ (T : Tables) where
    take_in : (k : ℕ) (R : Running) → InRoom R → InRoom (take_slot T room k R)
    unfolding take_slot
    take_in k R h =
        cond_by InRoom (ltb k (length R.slots)) (λ t. offers_in k R (children_coded T (slot_at R.slots k).at) h) (λ f. h)

    turns_in : (n k : ℕ) (R : Running) → InRoom R → InRoom (slot_turns T room n k R)
    turns_in zero k R h = h
    turns_in (suc n) k R h =
        cond_by InRoom (is_going R.status) (λ t. turns_in n (suc k) (take_slot T room k R) (take_in k R h)) (λ f. h)

    search_in : (k : Coded) → InRoom (slot_search T room k)
    unfolding slot_search
    search_in k =
        let first : Slot = record { at = k; parent = 0; step = 0 } in
        turns_in (suc room) 0 (enter_slot room [] first) (enter_in [] first (omega arith))

room_most : (bytes : ℕ) → room_for bytes ≤ most_room
room_most bytes = omega arith

-- A clash, which decides, is the only end with bytes.
found_decides : (g : Option ℕ) (no_clash : Bool) → decides_number no_clash (number_in_pair (clash_how g)) ≡ true
found_decides None no_clash = refl
found_decides (Some bytes) no_clash = refl

status_unchanged : (x : Status) (ss : List Slot) (sets buffer : List ℕ) (no_clash : Bool)
    → decides_number no_clash (number_in_pair (how_by x ss sets buffer)) ≡ false → buffer_by x ss sets buffer ≡ buffer
status_unchanged Status-as.Found ss sets buffer no_clash d =
    absurd (true_false (found_decides (answer_given sets (text_at ss (length ss - 1)) buffer) no_clash) d)
status_unchanged Status-as.UsedUp ss sets buffer no_clash d = refl
status_unchanged Status-as.NoRoom ss sets buffer no_clash d = refl
status_unchanged Status-as.TooLong ss sets buffer no_clash d = refl
status_unchanged Status-as.Going ss sets buffer no_clash d = refl

-- Any search.
module _ (T : Tables) (k : Coded) (bytes : ℕ) (answer : List ℕ) where
  with_at_most : (ended_with T (room_for bytes) k answer).count ≤ most_room
  unfolding ended_with
  with_at_most = omega (arith, search_in (room_for bytes) T k, room_most bytes)

  with_unchanged : (no_clash : Bool) → decides_coded no_clash (ended_with T (room_for bytes) k answer) ≡ false
      → buffer_with T (room_for bytes) k answer ≡ answer
  unfolding ended_with buffer_with run_concluded concluded_buffer
  with_unchanged no_clash d =
      let R = slot_search T (room_for bytes) k in
      status_unchanged R.status R.slots k.sets answer no_clash d

module _ (s : Code.Question) (bytes : ℕ) (answer : List ℕ) where
  pub own_at_most : (ended_all s bytes answer).count ≤ most_room
  unfolding ended_all
  own_at_most = with_at_most (tables_all s) (first_of s) bytes answer

  pub own_unchanged : (no_clash : Bool) → decides_coded no_clash (ended_all s bytes answer) ≡ false → buffer_all s bytes answer ≡ answer
  unfolding ended_all buffer_all
  own_unchanged = with_unchanged (tables_all s) (first_of s) bytes answer

  over_at_most : (among : List Bool) → (ended_over among s bytes answer).count ≤ most_room
  unfolding ended_over
  over_at_most among = with_at_most (tables_among among s) (first_of s) bytes answer

  over_unchanged : (among : List Bool) (no_clash : Bool) → decides_coded no_clash (ended_over among s bytes answer) ≡ false
      → buffer_over among s bytes answer ≡ answer
  unfolding ended_over buffer_over
  over_unchanged among = with_unchanged (tables_among among s) (first_of s) bytes answer

-- Each kind of attempt.
module _ (s : Code.Question) (bytes : ℕ) (answer : List ℕ) where
  pub test_harmless : (no_clash : Bool) → Harmless answer (by_test s bytes answer no_clash)
  test_harmless no_clash = record { at_most = omega arith; unchanged = λ d. refl }

  pub text_harmless : (n : ℕ) → Harmless answer (by_text s bytes answer n)
  text_harmless n =
      record {
        at_most = own_at_most (texts_coded s n) bytes answer;
        unchanged = own_unchanged (texts_coded s n) bytes answer false;
      }

  pub characters_harmless : (fewer : Bool) → Harmless answer (by_characters s bytes answer fewer)
  characters_harmless fewer =
      record {
        at_most = over_at_most s bytes answer (characters_coded s fewer);
        unchanged = over_unchanged s bytes answer (characters_coded s fewer) (not fewer);
      }
