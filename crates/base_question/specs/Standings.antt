-- How often each field stands: how many tokens of the two sides are the field. A hidden field is counted where the sides have it.
use Rattle.std.specs.Prelude.{ℕ, ◌+◌, Bool, not, List, ◌++◌, map, eqb, length, get_or}
use Rattle.paper.specs.Lists.{upto, keep}
use Rattle.paper.specs.Numbers.{set_fields}
use Rattle.paper.specs.Equation.{Side, is_field}
use Rattle.base_codes.specs.Inner.{field_code, tokens}

-- how many tokens of the side are the field
abbrev pub times : ℕ → Side → ℕ
times f side = length (keep (is_field f) side)

-- how many of the codes are this one
abbrev pub count : ℕ → List ℕ → ℕ
count code codes = length (keep (eqb code) codes)

-- how often each field stands in two sides by inner codes
unfoldable pub standing_times : List ℕ → List ℕ → List ℕ
standing_times left right = map (λ (f : ℕ). count (field_code + f) (tokens left ++ tokens right)) (upto set_fields)

-- the field stands, by how often each does
abbrev pub is_counted : List ℕ → ℕ → Bool
is_counted counts f = not (eqb (get_or counts f 0) 0)
