-- `search` meets its contract: the question with its hidden fields and its tables is made, and searched. Follows from `searched_by`.
use mathlib.Core.Path.{refl}
use mathlib.Core.List.{[], ◌∷◌, ◌++◌}
use Rattle.search_question.proofs.Searched.{Searched, searched_by}
use Rattle.search_question.proofs.search.Goals.{After-run}
use Rattle.search_question.proofs.search.Goals as goal

told : (c : After-run) → let a = c.args in Searched a.among a.question a.work.now a.answer.now c.run.new.answer c.run.new.work c.run.result
told c =
    let a = c.args in
    let own = a.question.fields in
    let many = a.question.alphabet.characters in
    let told = c.run.ensures.told in
    searched_by a.among a.question
    (record { characters = many; left = c.side-left.result; right = c.side-right.result; fields = own ++ (c.spaces-hidden.result ∷ c.spaces-hidden.result ∷ []) })
    many _ _ _
    (λ i. record {
      characters = many;
      left = c.side-left.ensures i;
      right = c.side-right.ensures i;
      fields = own ++ (c.spaces-hidden.ensures i ∷ c.spaces-hidden.ensures i ∷ []);
    })
    refl c.follow_behind-follow.ensures c.last_behind-last.ensures c.taking_among-taking.ensures
    a.work.now a.answer.now _ _ _ (told.0, (told.1, c.run.ensures.work))

pub returns-clause-ended : goal.returns-clause-ended
returns-clause-ended c = (told (goal.at.returns-clause-ended c).After-run).0

pub returns-clause-answer : goal.returns-clause-answer
returns-clause-answer c = (told (goal.at.returns-clause-answer c).After-run).1.0
