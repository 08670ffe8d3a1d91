-- What is promised of the player says all of it: any two outcomes that keep the promise are the same.
--   play_unique : PlayPromised r steps answer p → PlayPromised r steps answer s → p ≡ s
-- Of every reading and all bytes. Follows from the promises, since all bytes are an accepted way or stop somewhere (`play_told`).
use Prim.Native.Nat.{ℕ}
use native.Mathlib.Omega.{arith}
use mathlib.Core.Path.{◌≡◌, sym, ◌∙◌}
use mathlib.Core.Logic.{inl}
use mathlib.Core.List.{List}
use lib.Dec.{leb}
use lib.ListN.{length}
use Rattle.paper.specs.Places.{PlaceSet}
use Rattle.paper.specs.Search.{Entry}
use Rattle.paper.specs.Situation.{Situation, Move}
use Rattle.paper.specs.Question.{Question}
use Rattle.paper.specs.Sheet.{Reading, asked}
use Rattle.paper.proofs.base.Tests.{by_bool, leb_true, leb_false}
use Rattle.paper_laws.proofs.sheets.Rows.{fault_above, by_reading}
use Rattle.paper_steps.specs.Player.{Play, Played}
use Rattle.paper_steps.specs.PlayPromised.{Accepted, way_answer, PlayPromised}
use Rattle.paper_steps.proofs.Playing.{PlayTold, is_accepted, is_stopped, play_told}
use Rattle.paper_steps.proofs.PlayRight.{stops_apart}

module _ {r : Reading} {steps answer : List ℕ} {p s : Play} (a : PlayPromised r steps answer p) (b : PlayPromised r steps answer s) where
  -- what every outcome has beside its number, its bytes and its buffer
  record Same : Type 0 where
    number : p.number ≡ s.number
    place : p.place ≡ s.place
    written : p.written ≡ s.written
    answer_after : p.answer ≡ s.answer

  refused_same : {k : ℕ} → p.number ≡ k → s.number ≡ k → (k ≡ 0 → ⊥) → p.place ≡ s.place → Same
  refused_same h i n place =
      let (w, u) = a.unchanged (λ z. n (sym h ∙ z)) in
      let (v, t) = b.unchanged (λ z. n (sym i ∙ z)) in
      record { number = h ∙ sym i; place = place; written = w ∙ sym v; answer_after = u ∙ sym t }

  accepted_same : (q : Question) → r ≡ asked q → (e : Entry (Situation PlaceSet) Move) → Accepted q steps e → Same
  accepted_same q h e x =
      let place = a.no_place q h ∙ sym (b.no_place q h) in
      by_bool (leb (length (way_answer q e)) (length answer))
      (λ k.
      let fits = leb_true (length (way_answer q e)) (length answer) k in
      let c = a.carries q h e x fits in
      let d = b.carries q h e x fits in
      record {
        number = c.number ∙ sym d.number;
        place = place;
        written = c.written ∙ sym d.written;
        answer_after = c.answer_after ∙ sym d.answer_after;
      })
      (λ k.
      let short = leb_false (length (way_answer q e)) (length answer) k in
      refused_same (a.too_short q h e x short) (b.too_short q h e x short) (λ (z : 20 ≡ 0). omega arith) place)

  told_same : (q : Question) → r ≡ asked q → {x : Played} → PlayTold q steps x → Same
  told_same q h (is_accepted {e = e} x) = accepted_same q h e x
  told_same q h (is_stopped {k = k} x) =
      refused_same (a.stops q h k x) (b.stops q h k x) (λ z. stops_apart q steps x (inl z)) (a.no_place q h ∙ sym (b.no_place q h))

  same : Same
  same =
      by_reading r
      (λ x at h.
      let (m, l) = a.refuses x at h in
      let (n, k) = b.refuses x at h in
      let low = fault_above x in
      refused_same m n (λ z. omega arith) (l ∙ sym k))
      (λ q h. told_same q h (play_told q steps))

  pub play_unique : p ≡ s
  play_unique = λ i.
      record {
        number = same.number i;
        count = (a.no_count ∙ sym b.no_count) i;
        place = same.place i;
        written = same.written i;
        answer = same.answer_after i;
      }
