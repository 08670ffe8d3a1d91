-- Tables by which every situation has the same children are searched alike.
--   ended_same, buffer_same, steps_same : the search ends alike, with the same buffers
-- By induction on the turns.
use Prim.Native.Nat.{ℕ, zero, suc}
use mathlib.Core.Path.{◌≡◌, refl, ap, ◌∙◌}
use mathlib.Core.Bool.{cond}
use mathlib.Core.List.{List, []}
use lib.Dec.{ltb}
use lib.ListN.{length}
use Rattle.base_codes.specs.Coded.{Coded}
use Rattle.search_children.specs.Children.{Tables, children_coded}
use Rattle.search_slots.specs.Slots.{slot_at}
use Rattle.search_run.specs.Run.{Running, is_going, enter_slot, offer_slots, take_slot, slot_turns, slot_search}
use Rattle.search_run.specs.declared.search.Status.TheVariants.{UsedUp}
use Rattle.search_run.specs.Ended.{run_concluded, concluded_buffer, ended_with, buffer_with}
use Rattle.search_run.specs.StepsEnded.{steps_concluded, counted, steps_with}

module _ (T U : Tables) (same : (k : Coded) → children_coded T k ≡ children_coded U k) where
  take_same : (room k : ℕ) (run : Running) → take_slot T room k run ≡ take_slot U room k run
  unfolding take_slot
  take_same room k run =
      ap (λ (r : Running). cond (ltb k (length run.slots)) r (record { slots = run.slots; status = UsedUp }))
      (ap (offer_slots room k run) (same (slot_at run.slots k).at))

  turns_same : (room n k : ℕ) (run : Running) → slot_turns T room n k run ≡ slot_turns U room n k run
  turns_same room zero k run = refl
  turns_same room (suc n) k run =
      ap (λ (next : Running). cond (is_going run.status) next run)
      (turns_same room n (suc k) (take_slot T room k run) ∙ ap (slot_turns U room n (suc k)) (take_same room k run))

  search_same : (room : ℕ) (s : Coded) → slot_search T room s ≡ slot_search U room s
  unfolding slot_search
  search_same room s = turns_same room (suc room) 0 (enter_slot room [] (record { at = s; parent = 0; step = 0 }))

  pub ended_same : (room : ℕ) (s : Coded) (buffer : List ℕ) → ended_with T room s buffer ≡ ended_with U room s buffer
  unfolding ended_with
  ended_same room s buffer =
      ap (λ (r : Running). record { how = run_concluded r s.sets buffer; count = length r.slots }) (search_same room s)

  pub buffer_same : (room : ℕ) (s : Coded) (buffer : List ℕ) → buffer_with T room s buffer ≡ buffer_with U room s buffer
  unfolding buffer_with
  buffer_same room s buffer = ap (λ (r : Running). concluded_buffer r s.sets buffer) (search_same room s)

  pub steps_same : (room : ℕ) (s : Coded) (answer steps : List ℕ) → steps_with T room s answer steps ≡ steps_with U room s answer steps
  unfolding steps_with
  steps_same room s answer steps =
      ap (λ (r : Running). counted (length r.slots) (steps_concluded r s.sets answer steps)) (search_same room s)
