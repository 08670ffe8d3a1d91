-- `read_situation` reads the situation of the slot i. Follows from what `Holds` says.
use Prim.Native.Nat.{◌*◌}
use native.Mathlib.Nat.{add-sub_cancel_left}
use Rattle.paper.specs.Numbers.{situation_bytes}
use Rattle.search_slots.specs.Slots.{slot_at, held_bytes}
use Rattle.search_run.proofs.search.read_situation.Goals as goal

pub returns : goal.returns
returns c ss h k =
    let i = c.args.i in
    c.read_slot.ensures (slot_at ss i) (h.short i k) (rw (add-sub_cancel_left (situation_bytes * i) held_bytes) (h.holds i k))
