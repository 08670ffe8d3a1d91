-- `read_slot` reads the situation of a slot. Follows from what each part of a slot's bytes is.
use mathlib.Core.Path.{ap, ◌∙◌}
use lib.ListN.{length}
use Rattle.search_slots.proofs.Situations.{length_slot_bytes, left_read, right_read, sets_read}
use Rattle.search_slots.proofs.read_slot.Goals as goal

pub returns-then-slot-ne-HELD : goal.returns-then-slot-ne-HELD
returns-then-slot-ne-HELD c s h e = absurd (c.if-slot-ne-HELD.true (ap length e ∙ length_slot_bytes s h))

pub returns : goal.returns
returns c s h e =
    let slot = c.args.slot.now in
    let left = c.side_of-left.ensures ∙ left_read s h slot e in
    let right = c.side_of-right.ensures ∙ right_read s h slot e in
    let its-sets = c.sets_of-sets.ensures s.at.sets h.sets (sets_read s h slot e) in
    λ i. record { left = left i; right = right i; sets = its-sets i }
