-- `recheck_decided` meets its contract: it is checking again by deciding.
use Rattle.paper_catalogue_decide.specs.DecidedPairs.{rechecking_decided}
use Rattle.catalogue_recheck.proofs.recheck_decided.Goals as goal

pub returns : goal.returns
unfolding rechecking_decided
returns c = c.recheck_by.ensures
