-- `answer_clash` judges the buffer, then writes. Follows from the laws of the two answers.
use mathlib.Core.Path.{refl}
use Rattle.paper.proofs.base.Tests.{true_false}
use Rattle.search_records.specs.Records.{way_spelt}
use Rattle.search_records.proofs.Answers.{too_short, written}
use Rattle.search_records.proofs.answer_clash.Goals as goal

pub returns-in_err-slot : goal.returns-in_err-slot
returns-in_err-slot c b = absurd (true_false (c.in_err-slot.ensures.there.1 b) refl)

pub returns-then-answer-total : goal.returns-then-answer-total
returns-then-answer-total c b =
    let args = c.args in
    let s = c.in_ok-slot.ensures.slot in
    too_short args.sets (way_spelt args.work.now args.last) args.answer.now (rw (← (rw (s.0, s.1) at c.records_length-total.ensures)) c.if-answer-total.true)

pub returns : goal.returns
returns c b =
    let args = c.args in
    let s = c.in_ok-slot.ensures.slot in
    let total = rw (s.0, s.1) at c.records_length-total.ensures in
    written args.sets (way_spelt args.work.now args.last) args.answer.now
    c.write_records.new.answer c.records_length-total.result (rw (← total) c.if-answer-total.false) total
    (rw (s.0, s.1) at c.write_records.ensures)
