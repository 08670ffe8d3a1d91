-- What `of` promises of an end without its way: the search is over, and what is concluded is the end. Follows from the laws of `Ending`.
use mathlib.Core.Path.{refl}
use Rattle.search_run.proofs.Ending.{over, ended}
use Rattle.search_run.proofs.told.EndedTold.of.Goals as goal

pub conclude-how-requires : goal.conclude-how-requires
conclude-how-requires c =
    let r = c.requires in over r.0 r.1 r.2 r.3.over

pub returns : goal.returns
returns c T room k s =
    let o = over T room k s.over in
    let e = ended T room k _ _ s.sets_are (c.conclude-how.ensures o) o.lent.entered in
    (e.0, e.1, refl)
