-- `search_told` meets its contract: the question with its hidden fields and its tables is made, and searched. Follows from `told_whole`.
use mathlib.Core.Path.{refl}
use mathlib.Core.List.{[], ◌∷◌, ◌++◌}
use Rattle.search_question.proofs.Searched.{told_whole}
use Rattle.search_question.proofs.search_told.Goals as goal

pub returns-clause-told : goal.returns-clause-told
returns-clause-told g c =
    let a = c.args in
    let own = a.question.fields in
    let many = a.question.alphabet.characters in
    told_whole a.question
    (record { characters = many; left = c.side-left.result; right = c.side-right.result; fields = own ++ (c.spaces-hidden.result ∷ c.spaces-hidden.result ∷ []) })
    many _ _ _
    (λ i. record {
      characters = many;
      left = c.side-left.ensures i;
      right = c.side-right.ensures i;
      fields = own ++ (c.spaces-hidden.ensures i ∷ c.spaces-hidden.ensures i ∷ []);
    })
    refl c.follow_behind-follow.ensures c.last_behind-last.ensures c.taking_behind-taking.ensures
    g.T.Told.told_by _ a.answer.now a.steps.now _ _ _ c.run.ensures.told
