-- `search::take` meets its contract. Follows from what `read_situation` and `offer_children` ensure.
use Prim.Native.Nat.{◌<◌}
use native.Mathlib.Omega.{arith}
use lib.ListN.{length}
use Rattle.paper.proofs.base.Tests.{lt_ltb}
use Rattle.search_run.specs.Run.{take_slot}
use Rattle.search_slots.specs.Slots.{slot_at}
use Rattle.search_run.proofs.search.take.Goals as goal

pub returns : goal.returns
unfolding take_slot
returns c =
    let r = c.read_situation-s in
    let k = c.args.k in
    record {
      within = c.offer_children.ensures.within;
      more = c.offer_children.ensures.more;
      lent = λ R l.
          let b : k < length R.slots = omega (arith, c.requires.k_lt_entered, l.entered) in
          let h = l.kept.holds in
          rw (lt_ltb k (length R.slots) b)
          (c.offer_children.ensures.lent R (slot_at R.slots k).at l (r.ensures R.slots h b) (h.short k b));
    }
