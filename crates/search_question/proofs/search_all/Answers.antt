-- `search_all` meets its contract: the search that tells no way. Follows from what `search_told` promises.
use Rattle.search_question.specs.Over.{ended_all, buffer_all}
use Rattle.search_question.proofs.search_all.Goals as goal

pub returns-clause-ended : goal.returns-clause-ended
unfolding ended_all
returns-clause-ended c = c.search_told.ensures.told.0

pub returns-clause-answer : goal.returns-clause-answer
unfolding buffer_all
returns-clause-answer c = c.search_told.ensures.told.1
