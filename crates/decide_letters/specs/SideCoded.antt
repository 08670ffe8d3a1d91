-- What stands in a side, by inner codes.
use Rattle.std.specs.Prelude.{ℕ, ◌+◌, Bool, ◌&&◌, List, [], ◌∷◌, map, eqb}
use Rattle.paper.specs.Lists.{upto}
use Rattle.paper.specs.Numbers.{fields}
use Rattle.paper_decide.specs.Letters.{one_if}
use Rattle.base_codes.specs.Inner.{field_code, is_char}

-- how often a field stands among the tokens, and how many of their characters count
abbrev pub times_coded : ℕ → List ℕ → ℕ
times_coded f [] = 0
times_coded f (b ∷ side) = one_if (eqb (field_code + f) b) + times_coded f side

abbrev pub weight_coded : (ℕ → Bool) → List ℕ → ℕ
weight_coded counts [] = 0
weight_coded counts (b ∷ side) = one_if (is_char b && counts b) + weight_coded counts side

unfoldable pub times_listed : List ℕ → List ℕ
times_listed side = map (λ (f : ℕ). times_coded f side) (upto fields)
