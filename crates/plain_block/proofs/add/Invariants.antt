-- `add` meets its contract. The loop's invariant: the places of the set that are not in the rest have been added (`Adding`). The rest falls.
use Rattle.plain_block.proofs.Growing.{Adding}
use Rattle.plain_block.proofs.add.Given as goal

abbrev pub invariant-loop-rest : goal.invariant-loop-rest
invariant-loop-rest l = Adding l.initial.rows l.set l.more l.todo l.rows l.r l.rest

abbrev pub decreases-loop-rest : goal.decreases-loop-rest
decreases-loop-rest l = l.rest
