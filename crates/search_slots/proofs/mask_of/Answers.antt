-- `mask_of` reads a mask. Follows from `number_back`.
use Prim.Native.Nat.{◌-◌}
use mathlib.Core.Path.{◌∙◌}
use Rattle.search_slots.specs.Slots.{mask_width}
use Rattle.search_slots.proofs.numbers.Bytes.{number_back}
use Rattle.search_slots.proofs.mask_of.Goals as goal

pub returns : goal.returns
returns c m e = c.number.ensures ∙ rw e (number_back (mask_width - 1) m)
