-- `put_mask` stores the bytes of a mask. Follows from what `put_number` promises.
use Prim.Native.Nat.{◌-◌}
use mathlib.Core.Path.{◌∙◌}
use borrow.Author.Rules.{rules}
use Rattle.search_slots.specs.Slots.{mask_width}
use Rattle.search_slots.proofs.numbers.Bytes.{low_bytes_all}
use Rattle.search_slots.proofs.put_mask.Goals as goal

pub returns : goal.returns
returns c =
    c.put_number.ensures ∙ rw c.requires (low_bytes_all (mask_width - 1) c.args.mask (search rules))
