-- `uneven_by_some` meets its contract. The loop's invariant: by none of the tokens before this one the sides are uneven.
use mathlib.Core.Path.{◌≡◌}
use lib.ListN.{drop}
use Rattle.paper.specs.Lists.{any}
use Rattle.decide_letters.specs.LettersCoded.{uneven_by_one}
use Rattle.decide_letters.specs.Uneven.{uneven_asked, Seen}
use Rattle.decide_letters.proofs.Asked.uneven_by_some.Given as goal

abbrev pub invariant-loop-b : goal.invariant-loop-b
invariant-loop-b l =
    Seen (uneven_asked l.self) l.seen
    × (any (uneven_by_one (uneven_asked l.self) l.space) (drop l.b-index l.b-items) ≡ any (uneven_by_one (uneven_asked l.self) l.space) l.b-items)
