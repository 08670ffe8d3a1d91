-- `padded_side` meets its contract: so many tokens as are copied are all that have room. Follows from `TrimTurns`.
use Rattle.search_trim.proofs.TrimTurns.{copied_padded}
use Rattle.search_trim.proofs.padded_side.Goals as goal

pub returns : goal.returns
returns c = copied_padded c.args.side.now _ _ c.min-n.ensures c.copy_from_slice.ensures.after
