-- `taking_space` meets its contract: zeros, with the leaf stored at the space if there is room for it (`AnySpaces`).
use Rattle.paper.specs.Numbers.{most_characters}
use Rattle.base_places.specs.Masks.{taking_masks}
use Rattle.search_hidden.proofs.AnySpaces.{taking_set, taking_none}
use Rattle.search_hidden.proofs.taking_space.Goals as goal

pub returns-then-space-lt-CHARACTERS : goal.returns-then-space-lt-CHARACTERS
unfolding taking_masks
returns-then-space-lt-CHARACTERS c = taking_set c.args.space most_characters c.if-space-lt-CHARACTERS.true

pub returns-else-space-lt-CHARACTERS : goal.returns-else-space-lt-CHARACTERS
unfolding taking_masks
returns-else-space-lt-CHARACTERS c = taking_none c.args.space most_characters c.if-space-lt-CHARACTERS.false
