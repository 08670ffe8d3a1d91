-- `add_decided` meets its contract: it is adding by deciding.
use Rattle.paper_catalogue_decide.specs.DecidedPairs.{adding_decided}
use Rattle.catalogue_add.proofs.add_decided.Goals as goal

pub returns : goal.returns
unfolding adding_decided
returns c = c.add_by.ensures
