-- `made` meets its contract: each arm by what the test or search behind it ensures.
use mathlib.Core.Path.{refl, sym, ap, ◌∙◌}
use mathlib.Core.Bool.{Bool, true, false}
use lib.ListN.{length}
use Rattle.paper_decide.specs.Deciding.{longer}
use Rattle.base_answers.specs.declared.Ended.{Ended}
use Rattle.decide_question.specs.Attempt.{tested_coded, searched_coded, as_result, letters_asked, by_test, attempt_coded}
use Rattle.decide_question.specs.Order.{number_of}
use Rattle.decide_question.proofs.AnyQuestion.{test_harmless, text_harmless, characters_harmless}
use Rattle.decide_question.proofs.SettlingSteps.{made_by, made_test_by}
use Rattle.decide_question.proofs.Attempt.made.Goals as goal

pub returns-in-Letters : goal.returns-in-Letters
unfolding attempt_coded
returns-in-Letters c =
    let a = c.args in
    made_by a.question a.first.now a.second.now (number_of a.self) a.work.now a.answer.now
    (test_harmless a.question (length a.work.now) a.answer.now (letters_asked a.question a.first.now a.second.now))
    (c.tested.ensures ∙ ap (λ (b : Bool). as_result (tested_coded b)) c.letters.ensures) refl
    (λ m. rw c.in-Letters.is) refl

pub returns-in-Apart : goal.returns-in-Apart
unfolding attempt_coded
returns-in-Apart c =
    let a = c.args in
    made_test_by a.question a.first.now a.second.now (number_of a.self) a.work.now a.answer.now c.apart.result c.tested-in-Apart.ensures
    (λ m y. ap (by_test a.question (length a.work.now) a.answer.now) (c.apart.ensures m y) ∙ rw c.in-Apart.is)

pub returns-in-Shortest : goal.returns-in-Shortest
unfolding attempt_coded
returns-in-Shortest c =
    let a = c.args in
    made_by a.question a.first.now a.second.now (number_of a.self) a.work.now a.answer.now
    (text_harmless a.question (length a.work.now) a.answer.now 0)
    (c.searched.ensures ∙ ap (λ (e : Ended). as_result (searched_coded false e)) c.text.ensures.ended) c.text.ensures.answer
    (λ m. rw c.in-Shortest.is) (c.text.ensures.work ∙ sym c.requires)

pub returns-in-Longer : goal.returns-in-Longer
unfolding attempt_coded
returns-in-Longer c =
    let a = c.args in
    let t = c.text-in-Longer.ensures in
    made_by a.question a.first.now a.second.now (number_of a.self) a.work.now a.answer.now
    (text_harmless a.question (length a.work.now) a.answer.now longer)
    (c.searched-in-Longer.ensures ∙ ap (λ (e : Ended). as_result (searched_coded false e)) t.ended) t.answer
    (λ m. rw c.in-Longer.is) (t.work ∙ sym c.requires)

pub returns-in-Alike : goal.returns-in-Alike
unfolding attempt_coded
returns-in-Alike c =
    let a = c.args in
    let over = rw c.characters-least.ensures at c.search.ensures in
    made_by a.question a.first.now a.second.now (number_of a.self) a.work.now a.answer.now
    (characters_harmless a.question (length a.work.now) a.answer.now false)
    (c.searched-in-Alike.ensures ∙ ap (λ (e : Ended). as_result (searched_coded true e)) over.ended) over.answer
    (λ m. rw c.in-Alike.is) (over.work ∙ sym c.requires)

pub returns-in-Few : goal.returns-in-Few
unfolding attempt_coded
returns-in-Few c =
    let a = c.args in
    let over = rw c.characters-few.ensures at c.search-in-Few.ensures in
    made_by a.question a.first.now a.second.now (number_of a.self) a.work.now a.answer.now
    (characters_harmless a.question (length a.work.now) a.answer.now true)
    (c.searched-in-Few.ensures ∙ ap (λ (e : Ended). as_result (searched_coded false e)) over.ended) over.answer
    (λ m. rw c.in-Few.is) (over.work ∙ sym c.requires)
