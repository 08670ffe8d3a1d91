-- `read` meets its contract. The loop's invariant: what is taken by the characters below c has been added (`Reading`).
use Rattle.plain_block.proofs.Characters.{Reading}
use Rattle.plain_block.proofs.Pair.read.Given as goal

abbrev pub invariant-loop-c : goal.invariant-loop-c
invariant-loop-c l =
    Reading l.initial.rows l.lefts l.rights l.self.left_taking.now l.self.right_taking.now l.self.lo l.self.hi l.todo l.rows l.r l.c
