-- `answered` meets its contract, from what `pair_number` promises.
use Rattle.catalogue_question.proofs.answered.Goals as goal

pub returns : goal.returns
returns c = rw c.pair_number.ensures
