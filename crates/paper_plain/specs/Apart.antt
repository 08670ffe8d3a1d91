-- What a side spells, each standing apart (request K9): a field that stands twice may hold another text at each standing.
use Rattle.std.specs.Prelude.{ℕ, ◌≡◌, List, [], ◌∷◌, ◌++◌}
use Rattle.paper.specs.Pattern.{Held, Holds}
use Rattle.paper.specs.Equation.{chr, fld, Side, Over}

module _ (held : ℕ → Held) where
  pub data Spells : Side → List ℕ → Type 0 where
    nothing : Spells [] []
    character : {a : ℕ} {side : Side} {w : List ℕ} → Spells side w → Spells (chr a ∷ side) (a ∷ w)
    field : {f : ℕ} {side : Side} {w : List ℕ} (u v : List ℕ) → w ≡ u ++ v → Holds (held f) u → Spells side v → Spells (fld f ∷ side) w

  -- both sides spell one label, over the characters
  pub record SpellAlike (characters : ℕ) (l r : Side) : Type 0 where
    pub spelt : List ℕ
    pub over : Over characters spelt
    pub left : Spells l spelt
    pub right : Spells r spelt
