-- `packed` meets its contract: the parts of a number, and a flag.
use Rattle.decide_letters.specs.PatternStack.{packed}
use Rattle.decide_letters.proofs.weights.packed.Goals as goal

pub returns : goal.returns
unfolding packed
returns c = rw c.one_if.ensures.1
