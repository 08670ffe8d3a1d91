-- `places_of` meets its contract. The loop's invariant: the places of the fields below f are counted (`Counted`).
use native.Mathlib.Omega.{arith}
use Rattle.paper.specs.Numbers.{fields}
use Rattle.base_places.specs.Masks.{within}
use Rattle.base_question.proofs.Counts.{counted_more, counted_all}
use Rattle.plain_count.specs.StandingsCoded.{all_places}
use Rattle.plain_count.proofs.places_of.Invariants.{places_at}
use Rattle.plain_count.proofs.places_of.Goals as goal

pub loop-f-preserved : goal.loop-f-preserved
loop-f-preserved c =
    let tables = c.args.question.fields in
    let n = within c.args.question.alphabet.characters in
    counted_more (places_at n tables) fields _ c.loop-f.f c.loop-f.invariant (omega arith) _ (rw c.within-n.ensures.0 at c.places_by.ensures)

pub returns : goal.returns
unfolding all_places
returns c =
    let tables = c.args.question.fields in
    let n = within c.args.question.alphabet.characters in
    counted_all (places_at n tables) fields _ c.loop-f.f c.loop-f.invariant (omega arith)
