-- `answer_way` meets its contract, by whether the records fit.
use Rattle.base_codes.specs.Coded.{denoted}
use Rattle.search_children.specs.Laid.{tables_lent}
use Rattle.play_texts.proofs.Putting.{too_short, written}
use Rattle.play_texts.proofs.answer_way.Goals as goal

pub returns-then-answer-length : goal.returns-then-answer-length
returns-then-answer-length c =
    let a = c.args in
    too_short (tables_lent a.tables.now) (denoted a.first) a.steps.now a.answer.now c.put_records-length.ensures
    c.if-answer-length.true

pub returns : goal.returns
returns c =
    let a = c.args in
    written (tables_lent a.tables.now) (denoted a.first) a.steps.now a.answer.now c.put_records-length.ensures
    c.if-answer-length.false c.put_records.ensures
