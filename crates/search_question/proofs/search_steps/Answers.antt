-- `search_steps` meets its contract: the search that tells its way. Follows from what `search_told` promises.
use Rattle.search_question.specs.Over.{steps_all}
use Rattle.search_question.proofs.search_steps.Goals as goal

pub returns-clause-ended : goal.returns-clause-ended
unfolding steps_all
returns-clause-ended c = c.search_told.ensures.told
