-- Any two results that the entry's promise allows are equal: the answer, the answer buffer and the working buffer. Follows from an answer being
-- told by its numbers (`one_answer`).
use Prim.Native.Nat.{ℕ}
use mathlib.Core.Path.{◌≡◌, sym, ap, ◌∙◌}
use mathlib.Core.List.{List}
use Rattle.paper.specs.Outcome.{Outcome, outcome}
use Rattle.base_answers.specs.AnswerNumbers.{Answer, told}
use Rattle.base_answers.proofs.FaultNumbers.{one_answer}

pub one_result : (sheet work answer : List ℕ) (r r' : Answer) (a a' w w' : List ℕ)
    → told r a w ≡ outcome sheet work answer → told r' a' w' ≡ outcome sheet work answer
    → (r ≡ r') × (a ≡ a') × (w ≡ w')
one_result sheet work answer r r' a a' w w' e e' =
    let same = e ∙ sym e' in (
      one_answer r r' a a' w w' same,
      ap (λ (o : Outcome). o.answer) same,
      ap (λ (o : Outcome). o.work) same,
    )
