-- `play`, the player's entry, meets its contract. Follows from the laws of `PlayAnswered`.
use mathlib.Core.Path.{◌≡◌, sym, subst, ◌∙◌}
use borrow.Author.Rules.{rules}
use Rattle.std.specs.Prelude.{Ok, Err}
use Rattle.paper_steps.specs.Player.{play}
use Rattle.play_question.specs.QuestionPlayed.{End, question_tables, question_first, PlayedFrom}
use Rattle.play_sheet.specs.PlayNumbers.{told_play}
use Rattle.play_sheet.specs.declared.PlayError.TheVariants.{Refused, Stopped}
use Rattle.play_sheet.proofs.PlayAnswered.{handed_on, and_promised, sheet_at_fault, sheet_played}
use Rattle.play_sheet.proofs.play.Goals.{After-play}
use Rattle.play_sheet.proofs.play.Goals as goal

pub returns-in_err-asked : goal.returns-in_err-asked
returns-in_err-asked c =
    let a = c.args in
    let given : c.from_residual.result ≡ Err (Refused c.in_err-asked.field-0.0) = search rules in
    let said = and_promised a.sheet.now a.steps.now a.answer.now _ (rw given (sheet_at_fault a.sheet.now a.steps.now a.answer.now c.in_err-asked.field-0.0 (sym c.read.ensures ∙ c.in_err-asked.was))) in
    record { whole = said.0; promised = said.1 }

-- the question that was read, played
played : (c : After-play) (e : End) → c.play.result ≡ e → let a = c.args in told_play (handed_on e) c.play.new.answer ≡ play a.sheet.now a.steps.now a.answer.now
played c e h =
    let a = c.args in
    let q = c.in_ok-asked.asked.question in
    sheet_played a.sheet.now a.steps.now a.answer.now c.in_ok-asked.asked (sym c.read.ensures ∙ c.in_ok-asked.was) c.play.new.answer e
    (subst (PlayedFrom (question_tables q) (question_first q) a.steps.now a.answer.now c.play.new.answer) h c.play.ensures)

pub returns-in_err-play : goal.returns-in_err-play
returns-in_err-play c =
    let a = c.args in
    let given : c.from_residual-in_err-play.result ≡ Err (Stopped c.in_err-play.field-0.0) = search rules in
    let said = and_promised a.sheet.now a.steps.now a.answer.now _ (rw given (played (goal.at.returns-in_err-play c).After-play (Err c.in_err-play.field-0.0) c.in_err-play.was)) in
    record { whole = said.0; promised = said.1 }

pub returns : goal.returns
returns c =
    let a = c.args in
    let said = and_promised a.sheet.now a.steps.now a.answer.now _ (played (goal.at.returns c).After-play (Ok c.in_ok-play.field-0) c.in_ok-play.was) in
    record { whole = said.0; promised = said.1 }
