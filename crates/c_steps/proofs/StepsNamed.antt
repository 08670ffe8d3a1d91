-- What an answer and its numbers say of the outcome. Follows from the definitions of the answer. And the elements, known by hand.
use Prim.Native.Nat.{ℕ}
use mathlib.Core.Path.{◌≡◌, refl, ap, ◌∙◌}
use mathlib.Core.List.{List, [], ◌∷◌}
use lib.ListN.{set}
use Rattle.paper_steps.specs.StepsOutcome.{StepsOutcome}
use Rattle.base_steps.specs.StepsNumbered.{StepsAnswer, steps_numbers, told_steps}
use Rattle.base_steps.specs.declared.StepsNumbers.{StepsNumbers}
use Rattle.c_tell.specs.ToldNumbers.{with_numbers}
use Rattle.c_steps.specs.StepsTelling.{telling_steps}

-- an answer that tells the outcome, with its numbers named and written
pub promised :
    (a : StepsAnswer) (numbers : StepsNumbers) {answer work steps : List ℕ} {o : StepsOutcome} (before : List ℕ) {three four : List ℕ}
    → told_steps a answer work steps ≡ o
    → numbers ≡ steps_numbers a
    → three ≡ with_numbers before numbers.count numbers.place numbers.written
    → four ≡ set three 3 numbers.steps
    → (numbers.number ≡ o.number)
    × ((four ≡ telling_steps before o) × ((answer ≡ o.answer) × ((steps ≡ o.steps) × (work ≡ o.work))))
promised a numbers before whole named third fourth = (
  ap (λ (n : StepsNumbers). n.number) named ∙ ap (λ (o : StepsOutcome). o.number) whole,
  (
    fourth
        ∙ ap (λ (l : List ℕ). set l 3 numbers.steps) third
        ∙ ap (λ (n : StepsNumbers). set (with_numbers before n.count n.place n.written) 3 n.steps) named
        ∙ ap (telling_steps before) whole,
    (
      ap (λ (o : StepsOutcome). o.answer) whole,
      (ap (λ (o : StepsOutcome). o.steps) whole, ap (λ (o : StepsOutcome). o.work) whole),
    ),
  ),
)

-- Which element has which number: the count at 0, the place at 1, the written length at 2, the bytes of steps at 3. Those behind are left, and there
-- may be fewer.
abbrev known : StepsOutcome
known = record { number = 1; count = 2; place = 3; written = 4; step_bytes = 5; answer = 6 ∷ []; work = 7 ∷ []; steps = 8 ∷ [] }

elements_known :
    telling_steps (90 ∷ 91 ∷ 92 ∷ 93 ∷ 94 ∷ []) known ∷ telling_steps (90 ∷ 91 ∷ 92 ∷ []) known ∷ []
    ≡ (2 ∷ 3 ∷ 4 ∷ 5 ∷ 94 ∷ []) ∷ (2 ∷ 3 ∷ 4 ∷ []) ∷ []
elements_known = refl
