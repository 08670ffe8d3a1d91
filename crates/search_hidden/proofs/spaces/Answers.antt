-- `spaces` meets its contract: what follows and what may be last by computation, what takes the space by `taking_space`.
use Rattle.base_places.specs.Masks.{mask_of, table, follow_masks, last_mask}
use Rattle.search_hidden.proofs.spaces.Goals as goal

pub returns : goal.returns
unfolding mask_of table follow_masks last_mask
returns c = rw c.taking_space-taking.ensures
