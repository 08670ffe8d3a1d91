-- `no_question` meets its contract, by what its parts promise. Assumes nothing.
use Rattle.base_question.proofs.no_question.Goals as goal

pub returns : goal.returns
returns c = rw (c.open_tables-open.ensures, c.no_bodies-bodies.ensures, c.alphabet_of-alphabet.ensures)
