-- Any two results that the promise of deciding allows are equal: the answer, the search, the answer buffer and the working buffer. Follows from an
-- answer being told by its outcome (`one_answer`).
use Prim.Native.Nat.{ℕ}
use mathlib.Core.Path.{◌≡◌, sym, ap, ◌∙◌}
use mathlib.Core.List.{List}
use Rattle.base_answers.proofs.FaultNumbers.{one_answer}
use Rattle.paper_decide.specs.Deciding.{decision, Decision}
use Rattle.decide_sheet.specs.Decision.{told_decision}
use Rattle.decide_sheet.specs.declared.Decision as Code

pub one_decision : (sheet work answer : List ℕ) (d d' : Code.Decision) (a a' w w' : List ℕ)
    → told_decision d a w ≡ decision sheet work answer → told_decision d' a' w' ≡ decision sheet work answer
    → (d ≡ d') × (a ≡ a') × (w ≡ w')
one_decision sheet work answer d d' a a' w w' e e' =
    let same = e ∙ sym e' in
    let answers : d.answer ≡ d'.answer = one_answer d.answer d'.answer a a' w w' (ap (λ (x : Decision). x.outcome) same) in
    let searches : d.search ≡ d'.search = ap (λ (x : Decision). x.search) same in (
      (λ i. record { answer = answers i; search = searches i }),
      ap (λ (x : Decision). x.outcome.answer) same,
      ap (λ (x : Decision). x.outcome.work) same,
    )
