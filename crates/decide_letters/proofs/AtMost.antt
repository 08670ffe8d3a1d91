-- The first bytes of what stands from an offset on, where both are cut to what there is.
--   Least      : r is the lesser of n and the limit
--   part_there : the part that is lent is what `bytes_at` says
-- Follows from the laws of `take` and `drop`.
use Prim.Native.Nat.{ℕ, ◌+◌, ◌-◌}
use native.Mathlib.Omega.{arith}
use mathlib.Core.Path.{◌≡◌, sym, ap, ◌∙◌}
use mathlib.Core.Bool.{true, false}
use mathlib.Core.List.{List}
use lib.Dec.{leb}
use lib.ListN.{length, take, drop, length-take, length-drop, drop_of_length-le}
use lib.Seq.{take_all, take-take}
use Rattle.paper.specs.Numbers.{pattern_bytes}
use Rattle.paper.proofs.base.Tests.{by_bool, leb_true, leb_false}
use Rattle.base_question.specs.declared.Body.{Body}
use Rattle.decide_letters.specs.LettersCoded.{Least, bytes_at}

module _ (n r : ℕ) (l : List ℕ) where
  drop_least : Least n (length l) r → drop n l ≡ drop r l
  drop_least h =
      by_bool (leb n (length l))
      (λ (e : leb n (length l) ≡ true). let k = leb_true n (length l) e in ap (λ (m : ℕ). drop m l) (let z : n ≡ r = omega arith in z))
      (λ (e : leb n (length l) ≡ false).
      let k = leb_false n (length l) e in
      drop_of_length-le l {i = n} (omega arith) ∙ sym (drop_of_length-le l {i = r} (omega arith)))

  take_least : Least n (length l) r → take n l ≡ take r l
  take_least h =
      by_bool (leb n (length l))
      (λ (e : leb n (length l) ≡ true). let k = leb_true n (length l) e in ap (λ (m : ℕ). take m l) (let z : n ≡ r = omega arith in z))
      (λ (e : leb n (length l) ≡ false).
      let k = leb_false n (length l) e in
      take_all n l (omega arith) ∙ sym (take_all r l (omega arith)))

  take_both : (k : ℕ) → Least n k r → take k (take n l) ≡ take r l
  take_both k h =
      by_bool (leb n k)
      (λ (e : leb n k ≡ true).
      let i = leb_true n k e in
      take_all k (take n l) (omega (arith, length-take n l)) ∙ ap (λ (m : ℕ). take m l) (let z : n ≡ r = omega arith in z))
      (λ (e : leb n k ≡ false).
      let i = leb_false n k e in
      take-take k n l (omega arith) ∙ ap (λ (m : ℕ). take m l) (let z : k ≡ r = omega arith in z))

pub part_there : (s : List ℕ) (b : Body) (start there n : ℕ) → Least b.start (length s) start → Least b.length (length s - start) there
    → Least there pattern_bytes n → take (start + n - start) (drop start s) ≡ bytes_at b s
part_there s b start there n h k l =
    let left = drop start s in
    let long : Least b.length (length left) there = rw (length-drop start s) k in
    ap (λ (m : ℕ). take m left) (let z : start + n - start ≡ n = omega arith in z)
    ∙ sym (take_both there n left pattern_bytes l)
    ∙ ap (take pattern_bytes) (sym (take_least b.length there left long))
    ∙ ap (λ (t : List ℕ). take pattern_bytes (take b.length t)) (sym (drop_least b.start start s h))
