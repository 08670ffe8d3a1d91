-- `add` meets its contract: it is adding by 01's search.
use mathlib.Core.Path.{ap}
use Rattle.paper_catalogue.specs.Catalogue.{AddedBy, adding}
use Rattle.catalogue_add.proofs.add.Goals as goal

pub returns : goal.returns
unfolding adding
returns c =
    let e = c.add_by.ensures in
    record { added = ap (λ (o : AddedBy). o.added) e; search = ap (λ (o : AddedBy). o.search) e }
