-- Adding further sets to those of a table of n, place by place: the table is filled with each set and what is added to it (`Filling`).
use Prim.Native.Nat.{ℕ, zero, suc, ◌+◌, ◌-◌, ◌≤◌, ◌<◌, zero-le}
use native.Mathlib.Nat.{add-zero, le_refl}
use native.Mathlib.Omega.{arith}
use mathlib.Core.Path.{◌≡◌, sym, ap, ap₂, ◌∙◌, subst, subst₂}
use mathlib.Core.Bool.{cond}
use mathlib.Core.List.{List}
use lib.Bits.{bit_or, or_zero_r}
use lib.ListN.{length, get_or, set}
use lib.Seq.{set-get_or}
use Rattle.paper.specs.Pattern.{takes, range}
use Rattle.base_places.specs.Masks.{table, in_mask}
use Rattle.base_places.proofs.Filling.{Filling, filling_none, filling_more, filling_read, filling_all}
use Rattle.read_pattern.specs.ReadPart.{or_at, Adds}

-- what `link` adds at the place i, and what `mark` adds at the character c
abbrev pub linked : ℕ → ℕ → ℕ → ℕ
linked last first i = cond (in_mask last i) first 0

abbrev pub marked : ℕ → ℕ → ℕ → ℕ → ℕ
marked lo hi set c = cond (takes (range lo hi) c) set 0

module _ (n : ℕ) (more : ℕ → ℕ) (d₀ : List ℕ) where
  pub record Adding (d : List ℕ) (i : ℕ) : Type 0 where
    pub at : i ≤ n
    pub filling : length d₀ ≡ n → Filling (or_at d₀ more) d₀ d i

  pub adding_none : Adding d₀ 0
  adding_none = record { at = zero-le; filling = λ e. filling_none (or_at d₀ more) d₀ }

  module _ (d : List ℕ) (i : ℕ) (l : Adding d i) where
    pub adding_more : i < n → (x : ℕ) → x ≡ more i → Adding (set d i (bit_or (get_or d i 0) x)) (i + 1)
    adding_more h x e =
        record {
          at = omega arith;
          filling = λ long.
              let f = l.filling long in
              let k : i < length d₀ = omega arith in
              filling_more (or_at d₀ more) d₀ d i f k (bit_or (get_or d i 0) x) (ap₂ bit_or (filling_read (or_at d₀ more) d₀ d i f k) e);
        }

    pub adding_all : n ≤ i → Adds n more d₀ d
    adding_all h long =
        filling_all (or_at d₀ more) d₀ d i (l.filling long) (omega arith) ∙ ap (table (or_at d₀ more)) long

  skip : (k i : ℕ) (d : List ℕ) → Adding d i → i + k ≤ n → ((j : ℕ) → i ≤ j → j < i + k → more j ≡ 0) → Adding d (i + k)
  skip zero i d l h z = rw (add-zero i) l
  skip (suc k) i d l h z =
      let before = skip k i d l (omega arith) (λ (j : ℕ) (a : i ≤ j) (b : j < i + k). z j a (omega arith)) in
      let same : set d (i + k) (bit_or (get_or d (i + k) 0) 0) ≡ d = rw (or_zero_r (get_or d (i + k) 0)) (set-get_or d (i + k) 0) in
      let e : i + k + 1 ≡ i + suc k = omega arith in
      subst₂ Adding same e (adding_more d (i + k) before (omega arith) 0 (sym (z (i + k) (omega arith) (omega arith))))

  -- places to which nothing is added
  pub adding_to : (d : List ℕ) (i m : ℕ) → Adding d i → i ≤ m → m ≤ n → ((j : ℕ) → i ≤ j → j < m → more j ≡ 0) → Adding d m
  adding_to d i m l h k z =
      let e : i + (m - i) ≡ m = omega arith in
      subst (Adding d) e (skip (m - i) i d l (omega arith) (λ (j : ℕ) (a : i ≤ j) (b : j < i + (m - i)). z j a (omega arith)))

  -- and all that are left
  pub adding_rest : (d : List ℕ) (i : ℕ) → Adding d i → ((j : ℕ) → i ≤ j → more j ≡ 0) → Adds n more d₀ d
  adding_rest d i l h =
      adding_all d n (adding_to d i n l l.at (le_refl n) (λ (j : ℕ) (a : i ≤ j) (_ : j < n). h j a)) (le_refl n)
