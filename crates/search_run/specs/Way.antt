-- The way to the last slot, and the texts that it spells, from the slots.
use Rattle.std.specs.Prelude.{ℕ, suc, ◌<◌, List, length}
use Rattle.search_slots.specs.Slots.{Slot, slot_at, SlotsHeld}
use Rattle.search_run.specs.Run.{text_back}

-- every slot but the first has its parent before it
abbrev pub Earlier : List Slot → Type 0
Earlier ss = (i : ℕ) → suc i < length ss → (slot_at ss (suc i)).parent < suc i

-- the buffer begins with these slots, the one with the number last is among them, and parents lead from it back to the first
pub record WayTo (work : List ℕ) (last : ℕ) : Type 0 where
  pub slots : List Slot
  pub holds : SlotsHeld work slots
  pub earlier : Earlier slots
  pub entered : last < length slots

-- the text of the field f, spelt from slot i back to slot 0
abbrev pub text_at : List Slot → ℕ → ℕ → List ℕ
text_at ss i f = text_back i ss f i
