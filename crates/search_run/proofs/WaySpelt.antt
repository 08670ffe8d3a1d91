-- What the bytes of the slots spell is what the slots spell, so the answer from the bytes is that from the slots. Follows from what a buffer
-- that holds slots says of its bytes, by induction on the steps back.
use Prim.Native.Nat.{ℕ, zero, suc, ◌/◌, ◌<◌}
use native.Mathlib.Omega.{arith}
use mathlib.Core.Path.{◌≡◌, refl, subst}
use mathlib.Core.List.{List}
use lib.ListN.{length}
use borrow.Author.Tests.{lt-ltb}
use Rattle.paper.specs.Lists.{only}
use Rattle.paper.specs.Numbers.{situation_bytes}
use Rattle.search_children.specs.Children.{given_coded}
use Rattle.search_slots.specs.Slots.{Slot, slot_at, SlotsHeld}
use Rattle.search_slots.proofs.Seen.{left_front_held, right_front_held, parent_held, step_held}
use Rattle.search_records.specs.Records.{puts_in, spelt_back, way_spelt, Answered}
use Rattle.std.specs.Prelude.{Option}
use Rattle.search_run.specs.Run.{text_back}
use Rattle.search_run.specs.Way.{Earlier, WayTo, text_at}

module _ {work : List ℕ} {ss : List Slot} (h : SlotsHeld work ss) (earlier : Earlier ss) (f : ℕ) where
  given_held : (p m : ℕ) → p < length ss → only (puts_in work p m f) m ≡ given_coded f (slot_at ss p).at m
  unfolding puts_in given_coded
  given_held p m k = rw (left_front_held h p k, right_front_held h p k)

  back_alike : (n i : ℕ) → i < length ss → spelt_back n work f i ≡ text_back n ss f i
  back_alike zero i k = refl
  back_alike (suc n) zero k = refl
  back_alike (suc n) (suc i) k =
      let p = (slot_at ss (suc i)).parent in
      let b : p < suc i = earlier i k in
      rw (parent_held h (suc i) k, step_held h (suc i) k, lt-ltb p (suc i) b, back_alike n p (omega arith), given_held p (slot_at ss (suc i)).step (omega arith))

module _ {work : List ℕ} {last : ℕ} (w : WayTo work last) where
  -- the buffer has the slot
  pub slot_there : last < length work / situation_bytes
  slot_there = omega (arith, w.entered, w.holds.fits)

  pub text_alike : way_spelt work last ≡ text_at w.slots last
  text_alike = λ i f. back_alike w.holds w.earlier f last last w.entered i

  pub answered_alike : {sets before after : List ℕ} {given : Option ℕ}
      → Answered sets (way_spelt work last) before after given → Answered sets (text_at w.slots last) before after given
  answered_alike {sets} {before} {after} {given} a =
      subst (λ (text : ℕ → List ℕ). Answered sets text before after given) text_alike a
