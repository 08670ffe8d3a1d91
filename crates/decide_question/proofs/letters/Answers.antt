-- `letters` meets its contract: the letters of the question, by its edition.
use Rattle.decide_question.specs.Attempt.{letters_asked}
use Rattle.decide_question.proofs.letters.Goals as goal

pub returns : goal.returns
unfolding letters_asked
returns c = rw (c.letters_differ.ensures, c.edition_of-edition.ensures)
