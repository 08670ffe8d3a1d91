-- `recheck` meets its contract: it is checking again by 01's search.
use Rattle.paper_catalogue.specs.Recheck.{rechecking}
use Rattle.catalogue_recheck.proofs.recheck.Goals as goal

pub returns : goal.returns
unfolding rechecking
returns c = c.recheck_by.ensures
