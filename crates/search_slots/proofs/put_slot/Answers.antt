-- `put_slot` stores a slot. Follows from `slot_stored`.
use Rattle.search_slots.specs.Slots.{origin_bytes}
use Rattle.search_slots.proofs.Keys.{slot_stored}
use Rattle.search_slots.proofs.put_slot.Goals as goal

pub returns-then-to-ne-HELD : goal.returns-then-to-ne-HELD
returns-then-to-ne-HELD c n m = absurd (c.if-to-ne-HELD.true n)

pub returns-then-key-ne-KEY : goal.returns-then-key-ne-KEY
returns-then-key-ne-KEY c n m = absurd (c.if-key-ne-KEY.true m)

pub returns : goal.returns
returns c n m =
    slot_stored c.args.key.now (origin_bytes c.args.parent c.args.step) c.args.to.now c.copy_from_slice.new.self
    c.put_origin.new.to n m c.copy_from_slice.ensures.after c.put_origin.ensures
