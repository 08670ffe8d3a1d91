-- The codes of a pattern's bytes, one by one.
--   code_there    : i < length s → get_or (codes e s) i 0 ≡ code e (get_or s i 0)
--   as_many_codes : length (codes e s) ≡ length s
-- Follows by induction on the bytes.
use Prim.Native.Nat.{ℕ, zero, suc, ◌<◌}
use native.Mathlib.Omega.{arith}
use mathlib.Core.Path.{◌≡◌, refl}
use mathlib.Core.List.{List, [], ◌∷◌}
use lib.ListN.{length, get_or, length-map}
use Rattle.paper.specs.Alphabet.{Edition, code, codes}

pub code_there : (e : Edition) (s : List ℕ) (i : ℕ) → i < length s → get_or (codes e s) i 0 ≡ code e (get_or s i 0)
code_there e [] i h = absurd (omega arith)
code_there e (b ∷ s) zero h = refl
code_there e (b ∷ s) (suc i) h = code_there e s i (omega arith)

pub as_many_codes : (e : Edition) (s : List ℕ) → length (codes e s) ≡ length s
as_many_codes e s = length-map s (code e)
