-- The search over slots: as the paper's (`Search`), but an entry has its parent's number and the step from there, where the paper's has
-- its whole way. The slots stand in the order of entry, so those taken are the first k. And the texts, spelt from the last slot back.
use Rattle.std.specs.Prelude.{ℕ, zero, suc, Bool, true, false, cond, List, [], ◌∷◌, ◌++◌, leb, ltb, length}
use Rattle.paper.specs.Lists.{any}
use Rattle.paper.specs.Search.{Child, long, child, End, found, used_up, no_room, too_long}
use Rattle.base_codes.specs.Coded.{Coded, finished_coded, same_coded}
use Rattle.search_children.specs.Children.{Tables, children_coded, given_coded}
use Rattle.search_slots.specs.Slots.{Slot, slot_at}
use Rattle.search_run.specs.declared.search.Status.{Status}
use Rattle.search_run.specs.declared.search.Status.TheVariants.{Going, Found, UsedUp, NoRoom, TooLong}

-- the slots entered, and how the search stands
pub record Running : Type 0 where
  pub slots : List Slot
  pub status : Status

abbrev pub is_going : Status → Bool
is_going Going = true
is_going Found = false
is_going UsedUp = false
is_going NoRoom = false
is_going TooLong = false

-- how the paper's search ends, as the code says it
abbrev pub status_of : {S M : Type 0} → End S M → Status
status_of (found e) = Found
status_of used_up = UsedUp
status_of no_room = NoRoom
status_of too_long = TooLong

-- "no room gives 18; otherwise it is entered, and a finished one ends the search at once"
unfoldable pub enter_slot : ℕ → List Slot → Slot → Running
enter_slot room ss s =
    cond (leb room (length ss)) (record { slots = ss; status = NoRoom })
    (record { slots = ss ++ (s ∷ []); status = cond (finished_coded s.at) Found Going })

-- "a side above 48 tokens gives 19; one already entered is dropped"; k is the parent's number
abbrev pub offer_going : ℕ → ℕ → List Slot → Child Coded ℕ → Running
offer_going room k ss long = record { slots = ss; status = TooLong }
offer_going room k ss (child m s) =
    cond (any (λ (x : Slot). same_coded x.at s) ss) (record { slots = ss; status = Going })
    (enter_slot room ss (record { at = s; parent = k; step = m }))

unfoldable pub offer_slot : ℕ → ℕ → Running → Child Coded ℕ → Running
offer_slot room k run c = cond (is_going run.status) (offer_going room k run.slots c) run

abbrev pub offer_slots : ℕ → ℕ → Running → List (Child Coded ℕ) → Running
offer_slots room k run [] = run
offer_slots room k run (c ∷ cs) = offer_slots room k (offer_slot room k run c) cs

module _ (T : Tables) where
  -- slot k is taken, if there is one
  unfoldable pub take_slot : ℕ → ℕ → Running → Running
  take_slot room k run =
      cond (ltb k (length run.slots)) (offer_slots room k run (children_coded T (slot_at run.slots k).at))
      (record { slots = run.slots; status = UsedUp })

  -- so many slots are taken, at most, from number k on
  abbrev pub slot_turns : ℕ → ℕ → ℕ → Running → Running
  slot_turns room zero k run = run
  slot_turns room (suc n) k run =
      let next = slot_turns room n (suc k) (take_slot room k run) in cond (is_going run.status) next run

  unfoldable pub slot_search : ℕ → Coded → Running
  slot_search room s = slot_turns room (suc room) 0 (enter_slot room [] (record { at = s; parent = 0; step = 0 }))

-- "A field's text is the characters put before it on the way from the start to the finish": from slot i back to slot 0, in at most
-- so many steps
abbrev pub text_back : ℕ → List Slot → ℕ → ℕ → List ℕ
text_back zero ss f i = []
text_back (suc n) ss f zero = []
text_back (suc n) ss f (suc i) =
    text_back n ss f (slot_at ss (suc i)).parent ++ given_coded f (slot_at ss (slot_at ss (suc i)).parent).at (slot_at ss (suc i)).step
