-- What the entry's answer and its numbers say of the outcome. Follows from the definitions of the entry. And the elements, known by hand.
use Prim.Native.Nat.{ℕ}
use mathlib.Core.Path.{◌≡◌, refl, ap, ◌∙◌}
use mathlib.Core.List.{List, [], ◌∷◌}
use Rattle.paper.specs.Outcome.{Outcome}
use Rattle.base_answers.specs.AnswerNumbers.{Answer, as_numbers, told}
use Rattle.base_answers.specs.declared.Numbers.{Numbers}
use Rattle.c_tell.specs.ToldNumbers.{with_numbers}
use Rattle.c_clash.specs.Asking.{telling}

-- an answer that tells the outcome, with its numbers named and written
pub promised :
    (a : Answer) (numbers : Numbers) {answer work : List ℕ} {o : Outcome} (before : List ℕ) {after : List ℕ} → told a answer work ≡ o
    → numbers ≡ as_numbers a
    → after ≡ with_numbers before numbers.count numbers.place numbers.written
    → (numbers.number ≡ o.number) × ((after ≡ telling before o) × ((answer ≡ o.answer) × (work ≡ o.work)))
promised a numbers before whole named written = (
  ap (λ (n : Numbers). n.number) named ∙ ap (λ (o : Outcome). o.number) whole,
  (
    written ∙ ap (λ (n : Numbers). with_numbers before n.count n.place n.written) named ∙ ap (telling before) whole,
    (ap (λ (o : Outcome). o.answer) whole, ap (λ (o : Outcome). o.work) whole),
  ),
)

-- Which element has which number: the count at 0, the place at 1, the written length at 2. Those behind are left, and there may be fewer.
abbrev known : Outcome
known = record { number = 1; count = 2; place = 3; written = 4; answer = 5 ∷ []; work = 6 ∷ [] }

elements_known :
    telling (90 ∷ 91 ∷ 92 ∷ 93 ∷ []) known ∷ telling (90 ∷ 91 ∷ []) known ∷ [] ≡ (2 ∷ 3 ∷ 4 ∷ 93 ∷ []) ∷ (2 ∷ 3 ∷ []) ∷ []
elements_known = refl
