-- `text` meets its contract: the question with its texts is made, and searched.
use Rattle.decide_question.proofs.text.Goals as goal

pub returns : goal.returns
returns c =
    rw c.with_texts-with.ensures at c.search_all.ensures
