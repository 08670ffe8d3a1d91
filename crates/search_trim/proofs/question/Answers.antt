-- `question` meets its contract: the sides are within their bytes.
use Rattle.search_trim.proofs.question.Goals as goal

pub returns : goal.returns
returns c = rw (c.length_of-left_len.ensures.2, c.length_of-right_len.ensures.2) at c.asked.ensures
