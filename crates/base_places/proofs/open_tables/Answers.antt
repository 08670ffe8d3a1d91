-- `open_tables` meets its contract: it is what is worked out of an open field, by computation.
use mathlib.Core.Path.{refl}
use Rattle.base_places.specs.Masks.{mask_of, table, follow_masks, taking_mask, taking_masks, last_mask}
use Rattle.base_places.proofs.open_tables.Goals as goal

pub returns : goal.returns
unfolding mask_of table follow_masks taking_mask taking_masks last_mask
returns c = refl
