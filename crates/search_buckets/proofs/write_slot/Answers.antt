-- `write_slot` writes the slot n and links it into its bucket. Follows from `written`.
use Prim.Native.Nat.{◌+◌, ◌-◌, ◌*◌, ◌≤◌}
use native.Mathlib.Nat.{add-sub_cancel_left}
use native.Mathlib.Omega.{arith}
use mathlib.Core.Path.{◌≡◌, ap, ◌∙◌}
use lib.ListN.{length}
use borrow.Rule.Slice.PartMut.{mid_of, mid_len}
use Rattle.paper.specs.Numbers.{situation_bytes}
use Rattle.search_slots.specs.Slots.{held_bytes}
use Rattle.search_slots.proofs.Situations.{short_key}
use Rattle.search_buckets.proofs.Kept.{written}
use Rattle.search_buckets.proofs.write_slot.Goals as goal

pub returns-then-slots-n : goal.returns-then-slots-n
returns-then-slots-n c k ss room e g s h n = absurd (omega (arith, room.0, c.if-slots-n.true, c.slots_in-slots.ensures))

pub returns-then-slots-b : goal.returns-then-slots-b
returns-then-slots-b c k ss room e g s h n = absurd (omega (arith, room.2, c.if-slots-b.true, c.slots_in-slots.ensures))

pub returns : goal.returns
returns c k ss room e g s h n =
    let at = situation_bytes * c.args.n in
    let fits : situation_bytes * (c.args.n + 1) ≤ length c.args.work.now = omega (arith, room.0) in
    let long : length (mid_of at (at + held_bytes - at) c.args.work.now) ≡ held_bytes =
    mid_len at (at + held_bytes) c.args.work.now (omega arith) ∙ add-sub_cancel_left at held_bytes in
    written h k c.args.parent c.args.step c.args.its.now c.put_slot.new.to c.args.n c.args.b
    e g s n fits room.2 (c.put_slot.ensures long (ap length e ∙ short_key s)) (c.put_links.ensures room.1)
