-- `places_by` meets its contract. The loop's invariant: the places that take a character so far are gathered, those of what is left are not.
use native.Mathlib.Omega.{arith}
use mathlib.Core.Path.{sym, ap, ◌∙◌}
use lib.ListN.{length-take}
use Rattle.plain_count.specs.StandingsCoded.{places_in, places_by}
use Rattle.plain_count.proofs.Walked.{taken_end}
use Rattle.plain_count.proofs.places_by.Goals as goal

pub returns : goal.returns
unfolding places_by
returns c =
    let l = c.loop-its in
    let a = c.args in
    c.places_in.ensures ∙ ap places_in (sym (taken_end l.taken a.taking.now a.n l.its-index (omega (arith, length-take a.n a.taking.now))) ∙ l.invariant)
