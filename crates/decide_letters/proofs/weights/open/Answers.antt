-- `open` meets its contract, by what `packed` promises.
use Rattle.decide_letters.proofs.weights.open.Goals as goal

pub returns : goal.returns
returns c = c.packed.ensures
