-- What the bytes of the slots say of the way is what the slots say, and from how the search over slots ended to how it ends with steps: what
-- `conclude_steps` and `run_steps` promise. Follows from what a buffer that holds slots says of its bytes, by induction on the steps back, and from the
-- definitions of StepsEnded.
use Prim.Native.Nat.{ℕ, zero, suc, ◌-◌, ◌<◌}
use native.Mathlib.Omega.{arith}
use mathlib.Core.Path.{◌≡◌, refl, ap, ◌∙◌}
use mathlib.Core.List.{List}
use lib.ListN.{length}
use borrow.Author.Tests.{lt-ltb}
use Rattle.base_codes.specs.Coded.{Coded}
use Rattle.base_steps.specs.declared.StepsHow.{StepsHow}
use Rattle.search_children.specs.Children.{Tables}
use Rattle.search_slots.specs.Slots.{Slot, slot_at, SlotsHeld}
use Rattle.search_slots.proofs.Seen.{parent_held, step_held}
use Rattle.search_records.specs.Records.{way_spelt, value_records}
use Rattle.search_steps.specs.WaySteps.{steps_back, way_steps, StepsTold, steps_told, steps_answered}
use Rattle.search_run.specs.Ended.{SearchOver}
use Rattle.search_run.specs.Run.{slot_search}
use Rattle.search_run.specs.StepsEnded.{slots_steps, steps_at, steps_by, steps_concluded, steps_run, counted, steps_with}
use Rattle.search_run.specs.Way.{Earlier, WayTo, text_at}
use Rattle.search_run.specs.declared.search.Run.{Run}
use Rattle.search_run.specs.declared.search.Status.{Status}
use Rattle.search_run.specs.declared.search.Status.TheVariants.{Found}
use Rattle.search_run.proofs.WaySpelt.{text_alike}
use Rattle.search_run.proofs.Concluding.{ended_so, way_there}

steps_alike : {work : List ℕ} {ss : List Slot} (h : SlotsHeld work ss) (earlier : Earlier ss) (n i : ℕ) → i < length ss
    → steps_back n work i ≡ slots_steps n ss i
steps_alike h earlier zero i k = refl
steps_alike h earlier (suc n) zero k = refl
steps_alike {ss = ss} h earlier (suc n) (suc i) k =
    let p = (slot_at ss (suc i)).parent in
    let b : p < suc i = earlier i k in
    rw (parent_held h (suc i) k, step_held h (suc i) k, lt-ltb p (suc i) b, steps_alike h earlier n p (omega arith))

-- the answer with steps, from the bytes and from the slots
pub steps_answered_alike : {work : List ℕ} {last : ℕ} (w : WayTo work last) (sets answer steps : List ℕ)
    → steps_answered (value_records sets (way_spelt work last)) (way_steps work last) answer steps
    ≡ steps_answered (value_records sets (text_at w.slots last)) (steps_at w.slots last) answer steps
steps_answered_alike {last = last} w sets answer steps =
    λ i. steps_answered (value_records sets (text_alike w i)) (steps_alike w.holds w.earlier last last w.entered i) answer steps

module _ {work : List ℕ} {run : Run} (o : SearchOver work run) (sets answer steps : List ℕ) {told : StepsTold} where
  pub steps_concluded_by : (x : Status) → run.status ≡ x → told ≡ steps_by x o.search.slots sets answer steps
      → told ≡ steps_concluded o.search sets answer steps
  unfolding steps_concluded
  steps_concluded_by x e a = rw (ended_so o x e) a

  pub found_with_steps : (e : run.status ≡ Found)
      → told ≡ steps_answered (value_records sets (way_spelt work (run.entered - 1))) (way_steps work (run.entered - 1)) answer steps
      → told ≡ steps_concluded o.search sets answer steps
  found_with_steps e t =
      steps_concluded_by Found e
      (t
      ∙ steps_answered_alike (way_there o e) sets answer steps
      ∙ ap (λ (n : ℕ). steps_answered (value_records sets (text_at o.search.slots (n - 1))) (steps_at o.search.slots (n - 1)) answer steps) o.lent.entered)

-- What is concluded is the end, where the sets are those of the first situation.
pub ended_with_steps : (T : Tables) (room : ℕ) (k : Coded) (sets answer steps : List ℕ) {after stepped : List ℕ} {how : StepsHow} (n : ℕ) → sets ≡ k.sets
    → steps_told how after stepped ≡ steps_concluded (slot_search T room k) sets answer steps → n ≡ length (slot_search T room k).slots
    → steps_run (record { how = how; count = n }) after stepped ≡ steps_with T room k answer steps
unfolding steps_with
ended_with_steps T room k sets answer steps n e c m =
    let told = c ∙ ap (λ (l : List ℕ). steps_concluded (slot_search T room k) l answer steps) e in
    λ i. counted (m i) (told i)
