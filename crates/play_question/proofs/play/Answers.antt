-- `play` meets its contract, by where the walk ends. Follows from what `play_part` promises of the walk and of the texts.
use mathlib.Core.Path.{◌≡◌, sym, ◌∙◌}
use borrow.Author.Rules.{rules}
use Rattle.std.specs.Prelude.{Err}
use Rattle.play_question.specs.QuestionPlayed.{question_tables, question_first}
use Rattle.play_question.proofs.Ended.{stopped_from, arrived_from}
use Rattle.play_question.proofs.play.Goals as goal

pub returns-in_err-play_part : goal.returns-in_err-play_part
returns-in_err-play_part c =
    let a = c.args in
    let told : c.from_residual.result ≡ Err c.in_err-play_part.field-0.0 = search rules in
    rw told
    (stopped_from (question_tables a.question) (question_first a.question) a.steps.now a.answer.now c.in_err-play_part.field-0.0
    (sym c.in_err-play_part.was ∙ c.play_part.ensures))

pub returns : goal.returns
returns c =
    let a = c.args in
    arrived_from (question_tables a.question) (question_first a.question) a.steps.now a.answer.now c.in_ok-play_part.field-0
    (sym c.in_ok-play_part.was ∙ c.play_part.ensures) c.play_part-2.new.answer c.play_part-2.result c.play_part-2.ensures
