-- What is promised of the search that writes its way says all of it: any two outcomes that keep the promise are the same.
--   steps_unique : AsksGood r → StepsPromised r work answer steps o → StepsPromised r work answer steps d → o ≡ d
-- Follows from the promises, since 01's outcome is 0 or not, and where it is 0 a way is found (demand 2).
use Prim.Native.Nat.{ℕ}
use native.Mathlib.Omega.{arith}
use mathlib.Core.Path.{◌≡◌, sym, ◌∙◌}
use mathlib.Core.List.{List}
use lib.Dec.{leb, eqb}
use lib.ListN.{length}
use Rattle.paper.specs.Sheet.{Reading}
use Rattle.paper.specs.Outcome.{outcome_of}
use Rattle.paper.proofs.base.Tests.{by_bool, leb_true, leb_false, eqb_true, eqb_false}
use Rattle.paper_laws.proofs.sheets.Asked.{AsksGood}
use Rattle.paper_laws.proofs.demands.Demand2.{demand_2}
use Rattle.paper_steps.specs.StepsOutcome.{StepsOutcome}
use Rattle.paper_steps.specs.StepsPromised.{way_bytes, StepsPromised}

module _
    {r : Reading} (good : AsksGood r) {work answer steps : List ℕ} {o d : StepsOutcome}
    (a : StepsPromised r work answer steps o) (b : StepsPromised r work answer steps d) where
  -- as 01's outcome, and the third buffer the same
  as_clash_same : (o.number ≡ 51 → ⊥) → (d.number ≡ 51 → ⊥) → o.step_bytes ≡ d.step_bytes → o.steps ≡ d.steps → o ≡ d
  as_clash_same m n bytes after =
      let x = a.as_clash m in
      let y = b.as_clash n in
      λ i.
      record {
        number = (x.number ∙ sym y.number) i;
        count = (x.count ∙ sym y.count) i;
        place = (x.place ∙ sym y.place) i;
        written = (x.written ∙ sym y.written) i;
        step_bytes = bytes i;
        answer = (x.answer ∙ sym y.answer) i;
        work = (x.work ∙ sym y.work) i;
        steps = after i;
      }

  both_51 : o.number ≡ 51 → d.number ≡ 51 → o ≡ d
  both_51 m n =
      let x = a.after_51 m in
      let y = b.after_51 n in
      let (k, u) = a.unchanged (λ z. omega arith) in
      let (l, v) = b.unchanged (λ z. omega arith) in
      λ i.
      record {
        number = (m ∙ sym n) i;
        count = (x.count ∙ sym y.count) i;
        place = (x.place ∙ sym y.place) i;
        written = (x.written ∙ sym y.written) i;
        step_bytes = (k ∙ sym l) i;
        answer = (x.answer_after ∙ sym y.answer_after) i;
        work = (x.all_zero ∙ sym y.all_zero) i;
        steps = (u ∙ sym v) i;
      }

  pub steps_unique : o ≡ d
  steps_unique =
      by_bool (eqb (outcome_of r work answer).number 0)
      (λ k.
      let zero = eqb_true (outcome_of r work answer).number 0 k in
      let s = ((demand_2 r good work answer).clash zero).solved in
      by_bool (leb (length (way_bytes s)) (length steps))
      (λ f.
      let fits = leb_true (length (way_bytes s)) (length steps) f in
      let x = a.wrote zero s fits in
      let y = b.wrote zero s fits in
      as_clash_same (λ z. omega (arith, x.number)) (λ z. omega (arith, y.number)) (x.step_bytes ∙ sym y.step_bytes) (x.steps_after ∙ sym y.steps_after))
      (λ f.
      let short = leb_false (length (way_bytes s)) (length steps) f in both_51 (a.too_short zero s short) (b.too_short zero s short)))
      (λ k.
      let other = eqb_false (outcome_of r work answer).number 0 k in
      let m : o.number ≡ 51 → ⊥ = λ z. other (a.after_51 z).is_clash in
      let n : d.number ≡ 51 → ⊥ = λ z. other (b.after_51 z).is_clash in
      let (e, u) = a.unchanged (λ z. other (sym (a.as_clash m).number ∙ z)) in
      let (f, v) = b.unchanged (λ z. other (sym (b.as_clash n).number ∙ z)) in
      as_clash_same m n (e ∙ sym f) (u ∙ sym v))
