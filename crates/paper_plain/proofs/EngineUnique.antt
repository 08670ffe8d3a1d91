-- What is promised of the small engine says all of it: any two outcomes that keep the promise are the same.
--   engine_unique : EnginePromised r bits e → EnginePromised r bits d → e ≡ d
--   needs_unique  : NeedsPromised r n → NeedsPromised r m → n ≡ m
-- Of every reading and every buffer. Follows from the promises alone.
use Prim.Native.Nat.{ℕ, ◌*◌, ◌≤◌, ◌<◌}
use native.Mathlib.Omega.{arith}
use mathlib.Core.Path.{◌≡◌, sym, ◌∙◌}
use mathlib.Core.Logic.{⊎_elim}
use mathlib.Core.Bool.{false}
use mathlib.Core.List.{List}
use lib.Dec.{leb}
use lib.ListN.{length, replicate, length-replicate}
use Rattle.paper.specs.Plain.{plain}
use Rattle.paper.specs.Question.{Question}
use Rattle.paper.specs.Sheet.{Reading, asked}
use Rattle.paper.proofs.base.Tests.{by_bool, leb_true, leb_false}
use Rattle.paper_laws.proofs.sheets.Rows.{by_reading}
use Rattle.paper_plain.specs.Engine.{Engine, bits_of, Needs}
use Rattle.paper_plain.specs.EnginePromised.{Answers, EnginePromised, NeedsPromised}

module _ {r : Reading} {bits : List ℕ} {e d : Engine} (p : EnginePromised r bits e) (s : EnginePromised r bits d) where
  answer_same : (q : Question) → r ≡ asked q → Answers q bits → e.number ≡ d.number
  answer_same q h a =
      ⊎_elim
      (λ i. ⊎_elim (λ j. i ∙ sym j) (λ j. absurd (s.no_clash q h j (p.clash q h i))) (s.answered q h a))
      (λ i. ⊎_elim (λ j. absurd (p.no_clash q h i (s.clash q h j))) (λ j. i ∙ sym j) (s.answered q h a))
      (p.answered q h a)

  number_same : (q : Question) → r ≡ asked q → e.number ≡ d.number
  number_same q h =
      by_bool (plain q.left q.right)
      (λ once. by_bool (leb (bits_of q) (8 * length bits))
      (λ fits. answer_same q h (record { once = once; fit = leb_true (bits_of q) (8 * length bits) fits }))
      (λ (k : leb (bits_of q) (8 * length bits) ≡ false).
      let few : 8 * length bits < bits_of q = leb_false (bits_of q) (8 * length bits) k in
      p.too_few q h once few ∙ sym (s.too_few q h once few)))
      (λ n. p.twice q h n ∙ sym (s.twice q h n))

  pub engine_unique : e ≡ d
  engine_unique =
      by_reading r
      (λ x at h.
      let (n, place, after) = p.refuses x at h in
      let (n', place', after') = s.refuses x at h in
      λ i.
      record { number = (n ∙ sym n') i; count = (p.no_count ∙ sym s.no_count) i; place = (place ∙ sym place') i; bits = (after ∙ sym after') i })
      (λ q h. λ i.
      record {
        number = number_same q h i;
        count = (p.no_count ∙ sym s.no_count) i;
        place = (p.no_place q h ∙ sym (s.no_place q h)) i;
        bits = (p.cleared q h ∙ sym (s.cleared q h)) i;
      })

-- A buffer of the one number of bytes is enough, so the other is not above it.
at_most : {r : Reading} {n m : Needs} → NeedsPromised r n → NeedsPromised r m → (q : Question) → r ≡ asked q → n.number ≡ 0 → m.number ≡ 0
    → m.bytes ≤ n.bytes
at_most {n = n} p s q h i j =
    let buffer : List ℕ = replicate n.bytes 0 in
    let long : length buffer ≡ n.bytes = length-replicate {A = ℕ} n.bytes 0 in
    let fits : bits_of q ≤ 8 * length buffer = p.enough q h i buffer (omega arith) in
    let k = s.needed q h j buffer fits in
    omega (arith, k, long)

module _ {r : Reading} {n m : Needs} (p : NeedsPromised r n) (s : NeedsPromised r m) where
  pub needs_unique : n ≡ m
  needs_unique =
      by_reading r
      (λ x at h.
      let (a, b, c) = p.refuses x at h in
      let (a', b', c') = s.refuses x at h in
      λ i. record { number = (a ∙ sym a') i; place = (b ∙ sym b') i; bytes = (c ∙ sym c') i })
      (λ q h. by_bool (plain q.left q.right)
      (λ once.
      let a = p.once q h once in
      let b = s.once q h once in
      let bytes : n.bytes ≡ m.bytes = omega (arith, at_most p s q h a b, at_most s p q h b a) in
      λ i. record { number = (a ∙ sym b) i; place = (p.no_place q h ∙ sym (s.no_place q h)) i; bytes = bytes i })
      (λ twice.
      let (a, c) = p.twice q h twice in
      let (b, d) = s.twice q h twice in
      λ i. record { number = (a ∙ sym b) i; place = (p.no_place q h ∙ sym (s.no_place q h)) i; bytes = (c ∙ sym d) i }))
