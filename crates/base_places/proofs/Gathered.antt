-- Gathering the places that may follow: the followers of the first n places, those of the next place of the set, all of them; and that behind the
-- last place of the set there is nothing to gather. The next place of the set is known by the zeros below the lowest digit of what is left of it.
use Prim.Native.Nat.{ℕ, zero, suc, ◌+◌, ◌-◌, ◌*◌, ◌/◌, ◌%◌, ◌^◌, ◌≤◌, ◌<◌}
use native.Mathlib.Nat.{add-zero, add-suc, mul-one, lt-mul-div-succ, lt_of_le_of_lt, pow-suc, pow-succ', div-one, div-div-eq-div-mul}
use lib.Pow.{pow_pos, shr-shr, shr_le}
use native.Mathlib.Omega.{arith}
use native.Mathlib.Numerals.{add-one}
use mathlib.Core.Path.{◌≡◌, refl, sym, ap, ap₂, ◌∙◌}
use mathlib.Core.Bool.{Bool, true, false, cond, ◌&&◌, ◌||◌, or-false}
use mathlib.Core.List.{List, [], ◌∷◌}
use lib.Bits.{bit_or}
use lib.Count.{count_trailing_zeros, under}
use lib.Dec.{eqb, ltb}
use lib.ListN.{get_or}
use Rattle.paper.specs.Lists.{upto, any}
use Rattle.paper.proofs.base.Lists.{any_append}
use Rattle.paper.proofs.base.Tests.{by_bool, true_false, ltb_true, ltb_false}
use Rattle.base_places.specs.Masks.{places, mask_of, in_mask, followers_of}
use Rattle.base_places.proofs.MaskOf.{mask_of_same, mask_of_or, mask_of_cond, mask_of_none, mask_of_digits, in_mask_out}
use Rattle.paper.proofs.base.Listed.{upto_snoc}

-- a number of which nothing is left behind n digits
below_power : (n m : ℕ) → m / 2 ^ n ≡ 0 → m < 2 ^ n
below_power n m h =
    let k : m < 2 ^ n * (m / 2 ^ n + 1) = lt-mul-div-succ m (pow_pos n) in
    rw mul-one at (rw h at k)

-- what is left behind one digit more
half_first : (x j : ℕ) → x / 2 ^ suc j ≡ x / 2 / 2 ^ j
half_first x j = ap (λ (p : ℕ). x / p) (pow-succ' 2 j) ∙ sym (div-div-eq-div-mul x 2 (2 ^ j))

-- the digits below the lowest one that is set are zeros
zeros_below : (k x j : ℕ) → j < count_trailing_zeros k x → x / 2 ^ j % 2 ≡ 0
unfolding count_trailing_zeros
zeros_below zero x j h = absurd (omega arith)
zeros_below (suc k) x j h = by (x % 2) refl j h (λ (i : ℕ) (l : i < count_trailing_zeros k (x / 2)). zeros_below k (x / 2) i l)
  where
    by : (d : ℕ) → x % 2 ≡ d → (j : ℕ) → j < under d (count_trailing_zeros k (x / 2))
        → ((i : ℕ) → i < count_trailing_zeros k (x / 2) → x / 2 / 2 ^ i % 2 ≡ 0) → x / 2 ^ j % 2 ≡ 0
    by zero e zero h f = ap (λ (y : ℕ). y % 2) (div-one x) ∙ e
    by zero e (suc j) h f = ap (λ (y : ℕ). y % 2) (half_first x j) ∙ f j (omega arith)
    by (suc d) e j h f = absurd (omega arith)

-- and that one is set
one_above : (k x : ℕ) → 0 < x → x < 2 ^ k → x / 2 ^ count_trailing_zeros k x % 2 ≡ 1
unfolding count_trailing_zeros
one_above zero x h l = absurd (omega arith)
one_above (suc k) x h l =
    by (x % 2) refl (λ (e : x % 2 ≡ 0). one_above k (x / 2) (omega arith) (let p = pow-suc 2 k in omega arith))
  where
    by : (d : ℕ) → x % 2 ≡ d → (x % 2 ≡ 0 → x / 2 / 2 ^ count_trailing_zeros k (x / 2) % 2 ≡ 1) → x / 2 ^ under d (count_trailing_zeros k (x / 2)) % 2 ≡ 1
    by zero e f = ap (λ (y : ℕ). y % 2) (half_first x (count_trailing_zeros k (x / 2))) ∙ f e
    by (suc d) e f = ap (λ (y : ℕ). y % 2) (div-one x) ∙ (let g : x % 2 ≡ 1 = omega arith in g)

-- how many places on from n the next place of the set with the mask m is
abbrev pub steps_to_next : ℕ → ℕ → ℕ
steps_to_next m n = count_trailing_zeros places (m / 2 ^ n)

module _ (m : ℕ) where
  -- no place of the set stands before the next one, nor behind the last one
  pub not_between : (n j : ℕ) → j < steps_to_next m n → in_mask m (n + j) ≡ false
  unfolding in_mask
  not_between n j h = ap (λ (x : ℕ). eqb (x % 2) 1) (sym (shr-shr m n j)) ∙ ap (λ (x : ℕ). eqb x 1) (zeros_below places (m / 2 ^ n) j h)

  pub not_behind : (n j : ℕ) → m / 2 ^ n ≡ 0 → n ≤ j → in_mask m j ≡ false
  not_behind n j h l = in_mask_out n m j (below_power n m h) l

  -- the next one stands, and is one of the places
  pub stands_next : (n : ℕ) → m < 2 ^ places → (m / 2 ^ n ≡ 0 → ⊥) → in_mask m (n + steps_to_next m n) ≡ true
  unfolding in_mask
  stands_next n l h =
      let some : 0 < m / 2 ^ n = omega arith in
      let below : m / 2 ^ n < 2 ^ places = lt_of_le_of_lt (shr_le m n) l in
      ap (λ (x : ℕ). eqb (x % 2) 1) (sym (shr-shr m n (steps_to_next m n)))
      ∙ ap (λ (x : ℕ). eqb x 1) (one_above places (m / 2 ^ n) some below)

  pub next_below : (n : ℕ) → m < 2 ^ places → (m / 2 ^ n ≡ 0 → ⊥) → n + steps_to_next m n < places
  next_below n l h =
      by_bool (ltb (n + steps_to_next m n) places)
      (λ e. ltb_true (n + steps_to_next m n) places e)
      (λ e. absurd (true_false (stands_next n l h) (in_mask_out places m (n + steps_to_next m n) l (ltb_false (n + steps_to_next m n) places e))))

module _ (masks : List ℕ) (m : ℕ) where
  -- may q follow the place i, and does i stand in the set?
  abbrev through : ℕ → ℕ → Bool
  through q i = in_mask m i && in_mask (get_or masks i 0) q

  -- what may follow some place below n
  pub gathered : ℕ → ℕ
  gathered n = mask_of (λ (q : ℕ). any (through q) (upto n))

  pub gathered_none : 0 ≡ gathered 0
  unfolding gathered
  gathered_none = sym mask_of_none

  one_more : (n q : ℕ) → any (through q) (upto n) || through q n ≡ any (through q) (upto (n + 1))
  one_more n q =
      sym
      (ap (λ (k : ℕ). any (through q) (upto k)) (add-one n)
      ∙ ap (any (through q)) (upto_snoc n)
      ∙ any_append (through q) (upto n) (n ∷ [])
      ∙ ap (λ (b : Bool). any (through q) (upto n) || b) (or-false (through q n)))

  gathered_more : (n : ℕ) → get_or masks n 0 < 2 ^ places
      → bit_or (gathered n) (cond (in_mask m n) (get_or masks n 0) 0) ≡ gathered (n + 1)
  unfolding gathered
  gathered_more n h =
      ap (bit_or (gathered n))
      (ap (λ (x : ℕ). cond (in_mask m n) x 0) (sym (mask_of_digits (get_or masks n 0) h))
      ∙ mask_of_cond (λ (q : ℕ). in_mask (get_or masks n 0) q) (in_mask m n))
      ∙ mask_of_or (λ (q : ℕ). any (through q) (upto n)) (λ (q : ℕ). through q n)
      ∙ mask_of_same (λ (q : ℕ). any (through q) (upto n) || through q n) (λ (q : ℕ). any (through q) (upto (n + 1)))
      (λ q l. one_more n q)

  -- from places that don't stand in the set nothing is gathered
  gathered_between : (n k : ℕ) → ((j : ℕ) → j < k → in_mask m (n + j) ≡ false) → gathered (n + k) ≡ gathered n
  unfolding gathered
  gathered_between n zero h = ap gathered (add-zero n)
  gathered_between n (suc k) h =
      mask_of_same (λ (q : ℕ). any (through q) (upto (n + suc k))) (λ (q : ℕ). any (through q) (upto (n + k)))
      (λ q l.
      ap (λ (j : ℕ). any (through q) (upto j)) (add-suc n k ∙ sym (add-one (n + k)))
      ∙ sym (one_more (n + k) q)
      ∙ rw (h k (omega arith)) (or-false (any (through q) (upto (n + k)))))
      ∙ gathered_between n k (λ (j : ℕ) (l : j < k). h j (omega arith))

  -- nor behind its last place
  gathered_last : (n k : ℕ) → m / 2 ^ n ≡ 0 → gathered (n + k) ≡ gathered n
  gathered_last n k h = gathered_between n k (λ (j : ℕ) (l : j < k). not_behind m n (n + j) h (omega arith))

  -- the followers of the next place of the set
  pub gathered_next : (n : ℕ) → m < 2 ^ places → (m / 2 ^ n ≡ 0 → ⊥) → get_or masks (n + steps_to_next m n) 0 < 2 ^ places
      → bit_or (gathered n) (get_or masks (n + steps_to_next m n) 0) ≡ gathered (n + steps_to_next m n + 1)
  gathered_next n l h f =
      ap₂ bit_or (sym (gathered_between n (steps_to_next m n) (not_between m n)))
      (ap (λ (b : Bool). cond b (get_or masks (n + steps_to_next m n) 0) 0) (sym (stands_next m n l h)))
      ∙ gathered_more (n + steps_to_next m n) f

  pub gathered_rest : (n : ℕ) → n ≤ places → m / 2 ^ n ≡ 0 → gathered n ≡ gathered places
  gathered_rest n l h =
      sym (gathered_last n (places - n) h) ∙ ap gathered (let e : n + (places - n) ≡ places = omega arith in e)

  pub gathered_all : gathered places ≡ followers_of masks m
  unfolding gathered followers_of
  gathered_all = refl
