-- `asked` meets its contract, by what its parts ensure.
use Rattle.catalogue_question.specs.PairCoded.{pair_question}
use Rattle.catalogue_question.proofs.Filled.{bodies_listed}
use Rattle.catalogue_question.proofs.asked.Goals as goal

pub returns : goal.returns
unfolding pair_question
returns c =
    let each = c.joined-bodies.ensures.each in
    rw (c.moved_up-right.ensures, c.joined-fields.ensures.both, c.joined-bodies.ensures.both, bodies_listed _ _ each.0 each.1, c.alphabet_of-alphabet.ensures)
