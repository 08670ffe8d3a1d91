-- `way` meets its contract: the question with its hidden fields and its tables is made, the records are read, and the texts spelt (`way_made`).
use mathlib.Core.Path.{◌≡◌}
use mathlib.Core.List.{[], ◌∷◌, ◌++◌}
use lib.ListN.{length}
use Rattle.paper.specs.Numbers.{longest_side}
use Rattle.way_question.proofs.WayMade.{way_made}
use borrow.Author.Rules.{rules}
use Rattle.way_question.proofs.way.Goals.{After-side-right}
use Rattle.way_question.proofs.way.Goals as goal

lengths : (c : After-side-right) → (length c.side-left.result ≡ longest_side) × (length c.side-right.result ≡ longest_side)
lengths c = (search rules, search rules)

pub returns : goal.returns
returns c =
    let a = c.args in
    let own = a.question.fields in
    let many = a.question.alphabet.characters in
    let (l, r) = lengths (goal.at.returns c).After-side-right in
    way_made a.question
    (record { characters = many; left = c.side-left.result; right = c.side-right.result; fields = own ++ (c.spaces-hidden.result ∷ c.spaces-hidden.result ∷ []) })
    c.follow_behind-follow.result c.taking_behind-taking.result c.last_behind-last.result c.question-first.result l r
    (λ i. record {
      characters = many;
      left = c.side-left.ensures i;
      right = c.side-right.ensures i;
      fields = own ++ (c.spaces-hidden.ensures i ∷ c.spaces-hidden.ensures i ∷ []);
    })
    c.follow_behind-follow.ensures c.taking_behind-taking.ensures c.last_behind-last.ensures c.question-first.ensures
    a.texts.now a.steps.now c.read-spans.result c.read-spans.ensures c.spell_from.ensures
