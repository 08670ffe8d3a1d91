-- `put_sets` stores the masks one behind the other. The loop's invariant: so many masks are stored. Follows from `part_back`.
use Prim.Native.Nat.{◌+◌, ◌-◌, ◌*◌}
use mathlib.Core.Path.{◌∙◌}
use native.Mathlib.Omega.{arith}
use borrow.Rule.Slice.PartMut.{same_len_mid}
use Rattle.search_slots.specs.Slots.{mask_width}
use Rattle.search_slots.proofs.Sets.{one_more_set, all_sets}
use Rattle.search_slots.proofs.put_sets.Goals as goal

pub loop-i-preserved : goal.loop-i-preserved
loop-i-preserved c =
    let put = c.put_mask in (
      same_len_mid (mask_width * c.loop-i.i) (mask_width * c.loop-i.i + mask_width - mask_width * c.loop-i.i) c.loop-i.to put.new.to put.auto.to ∙ c.loop-i.invariant.0,
      one_more_set c.loop-i.i c.args.sets.now c.args.to.now c.loop-i.to put.new.to (omega arith) c.loop-i.invariant.1 put.ensures,
    )

pub returns : goal.returns
returns c =
    c.loop-i.invariant.1 ∙ all_sets c.loop-i.i c.args.sets.now c.args.to.now (omega arith) c.requires
