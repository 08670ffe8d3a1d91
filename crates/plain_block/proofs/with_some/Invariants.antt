-- `with_some` meets its contract. The loop's invariant: the places that are not in the rest have been looked at (`Gathering`). The rest falls.
use Rattle.plain_block.proofs.WithSome.{Gathering}
use Rattle.plain_block.proofs.with_some.Given as goal

abbrev pub invariant-loop-rest : goal.invariant-loop-rest
invariant-loop-rest l = Gathering l.rows l.met l.last l.r l.rest

abbrev pub decreases-loop-rest : goal.decreases-loop-rest
decreases-loop-rest l = l.rest
