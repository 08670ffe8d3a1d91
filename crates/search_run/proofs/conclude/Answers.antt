-- `conclude` meets its contract: each arm names how it ends for the search's end. Follows from the laws of `Concluding`.
use mathlib.Core.Path.{refl}
use Rattle.search_run.specs.declared.search.Status.TheVariants as Status
use Rattle.search_run.proofs.Concluding.{some_entered, way_there, concluded_by, found_concluded}
use Rattle.search_run.proofs.conclude.Goals as goal

pub found-requires : goal.found-requires
found-requires c =
    let o = c.requires in
    let e = c.in-Found.is in
    record { count_nonzero = some_entered o e; way_to = way_there o e }

pub returns-in-Found : goal.returns-in-Found
returns-in-Found c o =
    let e = c.in-Found.is in
    found_concluded o e (c.found.ensures (way_there o e))

pub returns-in-UsedUp : goal.returns-in-UsedUp
returns-in-UsedUp c o = concluded_by o Status.UsedUp c.in-UsedUp.is refl refl

pub returns-in-NoRoom : goal.returns-in-NoRoom
returns-in-NoRoom c o = concluded_by o Status.NoRoom c.in-NoRoom.is refl refl

pub returns-in-TooLong : goal.returns-in-TooLong
returns-in-TooLong c o = concluded_by o Status.TooLong c.in-TooLong.is refl refl

pub returns-in-Going : goal.returns-in-Going
returns-in-Going c o = concluded_by o Status.Going c.in-Going.is refl refl
