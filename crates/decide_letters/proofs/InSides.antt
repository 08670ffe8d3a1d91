-- What stands among the tokens of a side.
--   times_le, listed_at      : how often a field stands
--   weight_summed, weight_le : how many characters count
--   Timing                   : how often each field stands before a token was counted; none yet, one token more, all
-- Follows from the definitions, and from the laws of `set`.
use Prim.Native.Nat.{ℕ, suc, ◌+◌, ◌≤◌, ◌<◌}
use native.Mathlib.Nat.{add-zero, zero-add, add_assoc}
use native.Mathlib.Numerals.{add-one}
use native.Mathlib.Omega.{arith}
use mathlib.Core.Path.{◌≡◌, refl, sym, ap, ap₂, ◌∙◌}
use mathlib.Core.Bool.{Bool, true, false, ◌&&◌}
use mathlib.Core.List.{List, [], ◌∷◌, map}
use lib.Dec.{eqb}
use lib.ListN.{length, get_or, set, drop, replicate, drop_of_length-le, length-set, length-map, length-replicate, get_or-replicate}
use lib.Seq.{drop-cons, ext_get_or, get_or-set_same, get_or-set_other}
use Rattle.std.specs.List.{fold, sum_by}
use Rattle.paper.specs.Lists.{upto}
use Rattle.paper.specs.Numbers.{fields, longest_side}
use Rattle.paper.proofs.base.Lists.{length_from}
use Rattle.paper.proofs.base.Listed.{get_or_map_upto}
use Rattle.paper.proofs.base.Tests.{by_bool, cond_by, eqb_true, eqb_false, eq_eqb, neq_eqb}
use Rattle.paper_decide.specs.Letters.{one_if}
use Rattle.base_codes.specs.Inner.{field_code, is_char}
use Rattle.decide_letters.specs.SideCoded.{times_coded, weight_coded, times_listed}

pub times_le : (f : ℕ) (side : List ℕ) → times_coded f side ≤ length side
times_le f [] = omega arith
times_le f (b ∷ side) =
    let rest = times_le f side in
    cond_by (λ (n : ℕ). n + times_coded f side ≤ suc (length side)) (eqb (field_code + f) b) (λ _. omega arith) (λ _. omega arith)

pub listed_at : (side : List ℕ) (f : ℕ) → f < fields → get_or (times_listed side) f 0 ≡ times_coded f side
unfolding times_listed
listed_at side f h = get_or_map_upto (λ (g : ℕ). times_coded g side) 0 fields f h

-- how many characters count, as a sum
summed : (f : ℕ → ℕ) (n : ℕ) (xs : List ℕ) → fold (λ (a x : ℕ). a + f x) n xs ≡ n + fold (λ (a x : ℕ). a + f x) 0 xs
summed f n [] = sym (add-zero n)
summed f n (x ∷ xs) =
    summed f (n + f x) xs ∙ add_assoc n (f x) _ ∙ ap (λ (m : ℕ). n + m) (sym (summed f (0 + f x) xs ∙ ap (λ (m : ℕ). m + fold (λ (a x : ℕ). a + f x) 0 xs) (zero-add (f x))))

pub weight_summed : (counts : ℕ → Bool) (xs : List ℕ) → sum_by (λ (b : ℕ). one_if (is_char b && counts b)) xs ≡ weight_coded counts xs
weight_summed counts [] = refl
weight_summed counts (b ∷ xs) =
    let f : ℕ → ℕ = λ (b : ℕ). one_if (is_char b && counts b) in
    summed f (0 + f b) xs ∙ ap₂ ◌+◌ (zero-add (f b)) (weight_summed counts xs)

pub weight_le : (counts : ℕ → Bool) (xs : List ℕ) → weight_coded counts xs ≤ length xs
weight_le counts [] = omega arith
weight_le counts (b ∷ xs) =
    let rest = weight_le counts xs in
    cond_by (λ (n : ℕ). n + weight_coded counts xs ≤ suc (length xs)) (is_char b && counts b) (λ _. omega arith) (λ _. omega arith)

-- The fields of the tokens before i are counted.
pub record Timing (xs times : List ℕ) (i : ℕ) : Type 0 where
  pub long : length times ≡ fields
  pub there : (f : ℕ) → f < fields → get_or times f 0 + times_coded f (drop i xs) ≡ times_coded f xs

module _ (xs : List ℕ) where
  pub timing_none : Timing xs (replicate {A = ℕ} fields 0) 0
  timing_none =
      record {
        long = length-replicate {A = ℕ} fields 0;
        there = λ f h. omega (arith, get_or-replicate {A = ℕ} fields f 0 0 h);
      }

  -- a token that is none of the fields
  module _ (times : List ℕ) (i : ℕ) (t : Timing xs times i) (h : i < length xs) where
    abbrev b : ℕ
    b = get_or xs i 0

    its : drop i xs ≡ b ∷ drop (i + 1) xs
    its = rw (add-one, drop-cons xs i 0 h)

    pub timing_other : ((f : ℕ) → f < fields → field_code + f ≡ b → ⊥) → Timing xs times (i + 1)
    timing_other other =
        record {
          long = t.long;
          there = λ f k.
              let all = t.there f k in
              let first = ap (times_coded f) its in
              let none = neq_eqb (field_code + f) b (other f k) in
              omega (arith, all, rw none at first);
        }

    pub timing_field : (g n : ℕ) → g < fields → b ≡ field_code + g → n ≡ get_or times g 0 + 1 → Timing xs (set times g n) (i + 1)
    timing_field g n k same one =
        record {
          long = length-set times g n ∙ t.long;
          there = λ f l.
              let all = t.there f l in
              let first = ap (times_coded f) its in
              by_bool (eqb f g)
              (λ (s : eqb f g ≡ true).
              let is : f ≡ g = eqb_true f g s in
              let hit = eq_eqb (field_code + f) b (omega arith) in
              let put : get_or (set times g n) f 0 ≡ n = rw is (get_or-set_same times g n 0 (omega (arith, t.long))) in
              omega (arith, all, rw hit at first, put, ap (λ (x : ℕ). get_or times x 0) is))
              (λ (s : eqb f g ≡ false).
              let isnt = eqb_false f g s in
              let none = neq_eqb (field_code + f) b (λ (z : field_code + f ≡ b). isnt (omega arith)) in
              let kept = get_or-set_other times g f n 0 isnt in
              omega (arith, all, rw none at first, kept));
        }

  module _ (times : List ℕ) (i : ℕ) (t : Timing xs times i) where
    -- no count is above 48
    pub timing_small : length xs ≤ longest_side → (f : ℕ) → f < fields → get_or times f 0 ≤ longest_side
    timing_small few f h = omega (arith, t.there f h, times_le f xs)

    pub timing_all : length xs ≤ i → times ≡ times_listed xs
    unfolding times_listed
    timing_all over =
        let none : drop i xs ≡ [] = drop_of_length-le xs over in
        ext_get_or 0 times (map (λ (f : ℕ). times_coded f xs) (upto fields))
        (t.long ∙ sym (length-map (upto fields) (λ (f : ℕ). times_coded f xs) ∙ length_from 0 fields))
        (λ f h.
        let k : f < fields = omega (arith, t.long) in
        sym (add-zero (get_or times f 0)) ∙ sym (ap (λ (l : List ℕ). get_or times f 0 + times_coded f l) none) ∙ t.there f k
        ∙ sym (get_or_map_upto (λ (g : ℕ). times_coded g xs) 0 fields f k))
