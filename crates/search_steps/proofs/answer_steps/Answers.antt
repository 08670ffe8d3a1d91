-- `answer_steps` measures both, judges the answer buffer and then the third one, and writes both. Follows from the laws of the three answers.
use Prim.Native.Nat.{◌-◌, ◌≤◌}
use native.Mathlib.Omega.{arith}
use mathlib.Core.Path.{refl}
use lib.ListN.{length}
use Rattle.paper.proofs.base.Tests.{true_false}
use Rattle.search_records.specs.Records.{way_spelt, value_records}
use Rattle.search_steps.specs.WaySteps.{way_steps}
use Rattle.search_steps.proofs.Steps.{texts_too_short, steps_too_short, both_written, texts_written, way_written}
use Rattle.search_steps.proofs.answer_steps.Goals as goal

pub returns-in_default : goal.returns-in_default
returns-in_default c b = absurd (true_false (c.in_default.ensures.there.1 b) refl)

pub returns-then-answer-written : goal.returns-then-answer-written
returns-then-answer-written c b =
    let args = c.args in
    texts_too_short (value_records args.sets (way_spelt args.work.now args.last)) (way_steps args.work.now args.last) args.answer.now args.steps.now
    (rw (← c.answer_length-written.ensures b) c.if-answer-written.true)

pub returns-then-steps-bytes : goal.returns-then-steps-bytes
returns-then-steps-bytes c b =
    let args = c.args in
    steps_too_short (value_records args.sets (way_spelt args.work.now args.last)) (way_steps args.work.now args.last) args.answer.now args.steps.now
    (rw (← c.answer_length-written.ensures b) c.if-answer-written.false)
    (rw (← (rw (c.in-Some.ensures.slot.0, c.in-Some.ensures.slot.1) at c.steps_length-bytes.ensures)) c.if-steps-bytes.true)

pub returns : goal.returns
returns c b =
    let args = c.args in
    let text = way_spelt args.work.now args.last in
    let texts = value_records args.sets text in
    let way = way_steps args.work.now args.last in
    let written = c.answer_length-written.ensures b in
    let s = c.in-Some.ensures.slot in
    let many = rw (s.0, s.1) at c.steps_length-bytes.ensures in
    let first : length texts ≤ length args.answer.now = rw (← written) c.if-answer-written.false in
    both_written texts way args.answer.now args.steps.now c.answer_length-written.result c.steps_length-bytes.result _ _
    first
    (rw (← many) c.if-steps-bytes.false)
    written
    many
    (texts_written args.sets text args.answer.now _ first (c.answer_clash.ensures b).buffer)
    (way_written way args.steps.now c.write_steps.new.out (c.steps_length-bytes.result - 0) (rw (s.0, s.1) at c.write_steps.ensures) (omega (arith, many)))
