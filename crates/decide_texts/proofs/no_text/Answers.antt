-- `no_text` meets its contract: it is what is worked out of the empty text, by computation.
use mathlib.Core.Path.{refl}
use Rattle.base_places.specs.Masks.{mask_of, table, follow_masks, taking_mask, taking_masks, last_mask}
use Rattle.decide_texts.specs.TextsCoded.{spelt_tables}
use Rattle.decide_texts.proofs.no_text.Goals as goal

pub returns : goal.returns
unfolding spelt_tables mask_of table follow_masks taking_mask taking_masks last_mask
returns c = refl
