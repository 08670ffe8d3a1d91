-- Any two results that the promise of `steps` allows are equal: the answer and the three buffers. Follows from an answer being told by its numbers
-- (`one_steps_answer`).
use Prim.Native.Nat.{ℕ}
use mathlib.Core.Path.{◌≡◌, sym, ap, ◌∙◌}
use mathlib.Core.List.{List}
use Rattle.paper_steps.specs.StepsOutcome.{StepsOutcome, steps_outcome}
use Rattle.base_steps.specs.StepsNumbered.{StepsAnswer, told_steps}
use Rattle.base_steps.proofs.OneStepsAnswer.{one_steps_answer}

pub one_steps_result : (sheet work answer steps : List ℕ) (r r' : StepsAnswer) (a a' w w' s s' : List ℕ)
    → told_steps r a w s ≡ steps_outcome sheet work answer steps → told_steps r' a' w' s' ≡ steps_outcome sheet work answer steps
    → (r ≡ r') × (a ≡ a') × (w ≡ w') × (s ≡ s')
one_steps_result sheet work answer steps r r' a a' w w' s s' e e' =
    let same = e ∙ sym e' in (
      one_steps_answer r r' a a' w w' s s' same,
      ap (λ (o : StepsOutcome). o.answer) same,
      ap (λ (o : StepsOutcome). o.work) same,
      ap (λ (o : StepsOutcome). o.steps) same,
    )
