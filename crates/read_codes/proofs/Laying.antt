-- Codes laid from the front of a room, one after the other; and what stands in front once all are laid.
--   more_laid   : one more code
--   codes_front : the codes of the bytes stand in front
-- Follows from the laws of `set`, `take` and `++`.
use Prim.Native.Nat.{ℕ, suc, ◌-◌, ◌≤◌, ◌<◌}
use native.Mathlib.Omega.{arith}
use mathlib.Core.Path.{◌≡◌, sym, ap, ◌∙◌}
use mathlib.Core.List.{List, ◌++◌, append_assoc}
use lib.ListN.{length, get_or, take, set, replicate, length-map, get_or-map}
use lib.Seq.{take-suc, take_all, take_at, length-take-le, set_at}
use Rattle.paper.specs.Numbers.{not_a_code}
use Rattle.paper.specs.Alphabet.{Edition, code, codes}
use Rattle.read_codes.specs.Laid.{laid_codes}

-- the first i of the codes, and d behind them, n in all
abbrev pub laid : List ℕ → ℕ → ℕ → ℕ → List ℕ
laid cs d n i = take i cs ++ replicate (n - i) d

pub more_laid : (cs : List ℕ) (d n i other : ℕ) → i < length cs → i < n → set (laid cs d n i) i (get_or cs i other) ≡ laid cs d n (suc i)
more_laid cs d n i other h k =
    let e : n - i ≡ suc (n - suc i) = omega arith in
    rw (e, set_at (take i cs) d (replicate (n - suc i) d) (get_or cs i other) i (length-take-le i cs (omega arith)), take-suc cs i other, append_assoc)

module _ (e : Edition) (bytes : List ℕ) where
  -- one more, by its byte
  pub more_codes : (d n i : ℕ) → i < length bytes → i < n → (x : ℕ) → x ≡ code e (get_or bytes i 0)
      → set (laid (codes e bytes) d n i) i x ≡ laid (codes e bytes) d n (suc i)
  more_codes d n i h k x is =
      let l = length-map bytes (code e) in
      ap (set (laid (codes e bytes) d n i) i) (is ∙ sym (get_or-map (code e) bytes i 0))
      ∙ more_laid (codes e bytes) d n i (code e 0) (omega (arith, l)) k

  -- all of them, or as many as there is room for
  pub all_laid : (n i : ℕ) → i ≡ length bytes → i ≤ n → laid (codes e bytes) not_a_code n i ≡ laid_codes n e bytes
  unfolding laid_codes
  all_laid n i h k =
      let l = length-map bytes (code e) in
      rw (take_all i (codes e bytes) (omega (arith, l)), take_all n (codes e bytes) (omega (arith, l)), h)

  pub most_laid : (n i : ℕ) → i ≤ length bytes → i ≡ n → laid (codes e bytes) not_a_code n i ≡ laid_codes n e bytes
  unfolding laid_codes
  most_laid n i h k =
      let none : n - i ≡ n - length bytes = omega arith in
      rw (none, k)

  pub codes_front : (room n : ℕ) → length bytes ≡ n → n ≤ room → take n (laid_codes room e bytes) ≡ codes e bytes
  unfolding laid_codes
  codes_front room n l h =
      let m = length-map bytes (code e) in
      rw (take_all room (codes e bytes) (omega (arith, m))) (take_at (codes e bytes) _ n (m ∙ l))
