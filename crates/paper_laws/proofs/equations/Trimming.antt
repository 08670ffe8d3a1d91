-- Trimming as a relation: equal characters are dropped from both fronts, some number of times. What a law needs to know of
-- trimming is this, and it then has two cases and no test. Follows from the definition of `trim` by induction on the sides.
use Prim.Native.Nat.{ℕ}
use mathlib.Core.Path.{◌≡◌}
use mathlib.Core.List.{[], ◌∷◌}
use lib.Dec.{eqb}
use Rattle.paper.proofs.base.Tests.{cond_by, eqb_true}
use Rattle.paper.specs.Equation.{chr, fld, Side}
use Rattle.paper.specs.Situation.{Sides, trim}

-- the sides l, r become l', r'
pub data Trimming : Side → Side → Side → Side → Type 0 where
  stop : {l r : Side} → Trimming l r l r
  drop : {a b : ℕ} {l r l' r' : Side} → a ≡ b → Trimming l r l' r' → Trimming (chr a ∷ l) (chr b ∷ r) l' r'

pub trimming : (l r : Side) → Trimming l r (trim l r).l (trim l r).r
trimming [] r = stop
trimming (fld f ∷ l) r = stop
trimming (chr a ∷ l) [] = stop
trimming (chr a ∷ l) (fld g ∷ r) = stop
trimming (chr a ∷ l) (chr b ∷ r) =
    cond_by (λ (t : Sides). Trimming (chr a ∷ l) (chr b ∷ r) t.l t.r) (eqb a b) (λ e. drop (eqb_true a b e) (trimming l r)) (λ _. stop)
