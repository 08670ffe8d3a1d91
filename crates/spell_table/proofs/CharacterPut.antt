-- The spelling of a character, as it was put: its value alone, or its shift sign and its value. Follows from the definition, by its test.
use Prim.Native.Nat.{ℕ}
use mathlib.Core.Path.{◌≡◌}
use mathlib.Core.List.{List, [], ◌∷◌}
use Rattle.paper.proofs.base.Tests.{eq_eqb, neq_eqb}
use Rattle.paper_spell.specs.FullAscii.{no_shift, shift_of, value_of, spelt_by}
use Rattle.base_put.specs.Counted.{Counted}
use Rattle.base_put.proofs.Counting.{counted_then}

module _ (c s v : ℕ) (its-shift : s ≡ shift_of c) (its-value : v ≡ value_of c) where
  pub put_alone : {d e : List ℕ} {at n : ℕ} → s ≡ no_shift → Counted d e at n (v ∷ []) → Counted d e at n (spelt_by (shift_of c) (value_of c))
  put_alone none p = rw (← its-shift, ← its-value, eq_eqb s no_shift none) p

  pub put_shifted : {d e f : List ℕ} {at b n : ℕ} → (s ≡ no_shift → ⊥) → Counted d e at b (s ∷ []) → Counted e f b n (v ∷ [])
      → Counted d f at n (spelt_by (shift_of c) (value_of c))
  put_shifted some p q = rw (← its-shift, ← its-value, neq_eqb s no_shift some) (counted_then p q)
