-- Plain questions (document 01, demand 3): no field stands more than once in the two sides together. How many situations such a
-- question can have at most, over any acceptor and any list of sets for each field that has the reachable ones.
use Rattle.std.specs.Prelude.{ℕ, ◌<◌, ◌+◌, ◌*◌, ◌≡◌, Bool, true, false, ◌&&◌, not, length}
use mathlib.Core.List.{List, [], ◌∷◌, ◌++◌, Memᴰ}
use Rattle.paper.specs.Equation.{chr, fld, Side, stands_in}
use Rattle.paper.specs.Situation.{Acceptor}

-- no field stands more than once in the side
abbrev pub each_once : Side → Bool
each_once [] = true
each_once (chr a ∷ side) = each_once side
each_once (fld f ∷ side) = not (stands_in f side) && each_once side

-- "If no field of a good sheet stands more than once in the two sides together"
abbrev pub plain : Side → Side → Bool
plain l r = each_once (l ++ r)

-- "L adds, over the left side, one for each character and, for each field, the number of its reachable place sets"
abbrev pub standings : {P : Type 0} → (ℕ → List P) → Side → ℕ
standings reach [] = 0
standings reach (chr a ∷ side) = 1 + standings reach side
standings reach (fld f ∷ side) = length (reach f) + standings reach side

-- "(1 + L) times (1 + R)"
abbrev pub plain_bound : {P : Type 0} → (ℕ → List P) → Side → Side → ℕ
plain_bound reach l r = (1 + standings reach l) * (1 + standings reach r)

-- "A reachable place set is one that some text leads to and that isn't empty; the first one counts": the lists have them all.
pub record Reaches {P : Type 0} (A : Acceptor P) (reach : ℕ → List P) : Type 0 where
  pub first : (f : ℕ) → f < A.fields → Memᴰ (A.first_set f) (reach f)
  pub after :
      (f : ℕ) (s : P) (c : ℕ)
      → f < A.fields → c < A.characters → Memᴰ s (reach f) → A.is_empty (A.set_after f s c) ≡ false
      → Memᴰ (A.set_after f s c) (reach f)
