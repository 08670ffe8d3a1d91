-- What is promised of the way of given texts says all of it: any two outcomes that keep the promise are the same.
--   way_unique : WayPromised r texts steps o → WayPromised r texts steps p → o ≡ p
-- Of every reading and all bytes. Follows from the promises, since all bytes are texts with a way to the finish or stop somewhere (`way_tells`).
use Prim.Native.Nat.{ℕ}
use native.Mathlib.Omega.{arith}
use mathlib.Core.Path.{◌≡◌, sym, ◌∙◌}
use mathlib.Core.Logic.{inl}
use mathlib.Core.List.{List}
use lib.Dec.{leb}
use lib.ListN.{length}
use Rattle.paper.specs.Question.{Question}
use Rattle.paper.specs.Sheet.{Reading, asked}
use Rattle.paper.specs.Equation.{Texts}
use Rattle.paper.proofs.base.Tests.{by_bool, leb_true, leb_false}
use Rattle.paper_laws.proofs.sheets.Rows.{fault_above, by_reading}
use Rattle.paper_steps.specs.StepRecords.{step_records}
use Rattle.paper_way.specs.WayOutcome.{Way}
use Rattle.paper_way.specs.WayPromised.{Says, At, Spelt, WayPromised}
use Rattle.paper_way.proofs.WayRight.{WayTold, is_stopped, is_written, way_tells, stops_apart}

module _ {r : Reading} {texts steps : List ℕ} {o p : Way} (a : WayPromised r texts steps o) (b : WayPromised r texts steps p) where
  -- what every outcome has beside its count
  record Same : Type 0 where
    number : o.number ≡ p.number
    place : o.place ≡ p.place
    written : o.written ≡ p.written
    steps_after : o.steps ≡ p.steps

  refused_same : {k : ℕ} → o.number ≡ k → p.number ≡ k → (k ≡ 0 → ⊥) → o.place ≡ p.place → Same
  refused_same h i n place =
      let (w, u) = a.unchanged (λ z. n (sym h ∙ z)) in
      let (v, t) = b.unchanged (λ z. n (sym i ∙ z)) in
      record { number = h ∙ sym i; place = place; written = w ∙ sym v; steps_after = u ∙ sym t }

  written_same : (q : Question) → r ≡ asked q → (t : Texts) (e : At q) → Says q texts t → Spelt q t e → Same
  written_same q h t e s w =
      let bytes = step_records e.way in
      let place = a.no_place q h ∙ sym (b.no_place q h) in
      by_bool (leb (length bytes) (length steps))
      (λ k.
      let fits = leb_true (length bytes) (length steps) k in
      let c = a.wrote q h t e s w fits in
      let d = b.wrote q h t e s w fits in
      record {
        number = c.number ∙ sym d.number;
        place = place;
        written = c.written ∙ sym d.written;
        steps_after = c.steps_after ∙ sym d.steps_after;
      })
      (λ k.
      let short = leb_false (length bytes) (length steps) k in
      refused_same (a.too_short q h t e s w short) (b.too_short q h t e s w short) (λ (z : 51 ≡ 0). omega arith) place)

  told_same : (q : Question) → r ≡ asked q → {x : Way} → WayTold q texts steps x → Same
  told_same q h (is_stopped {k = k} x) =
      refused_same (a.stops q h k x) (b.stops q h k x) (λ z. stops_apart q texts x (inl z)) (a.no_place q h ∙ sym (b.no_place q h))
  told_same q h (is_written t e s w) = written_same q h t e s w

  same : Same
  same =
      by_reading r
      (λ x at h.
      let (m, l) = a.refuses x at h in
      let (n, k) = b.refuses x at h in
      let low = fault_above x in
      refused_same m n (λ z. omega arith) (l ∙ sym k))
      (λ q h. told_same q h (way_tells q texts steps))

  pub way_unique : o ≡ p
  way_unique = λ i.
      record {
        number = same.number i;
        count = (a.no_count ∙ sym b.no_count) i;
        place = same.place i;
        written = same.written i;
        steps = same.steps_after i;
      }
