-- The tokens of a side as the engine goes through them (request K9): what is worked out of each, and the characters that it may read. A character is
-- read as a field with one leaf would be: it has a start and one place behind it. The end of a side has no place that follows and is never left.
use Rattle.std.specs.Prelude.{ℕ, suc, cond, List, ◌∷◌, get_or, replicate}
use Rattle.paper.specs.Numbers.{most_characters, most_leaves}
use Rattle.base_places.specs.Masks.{places}
use Rattle.base_places.specs.declared.PlaceTables.{PlaceTables}
use Rattle.base_codes.specs.Inner.{field_of, is_char}

-- "how far one side has been read": the token that is in front
pub record Front : Type 0 where
  pub of : PlaceTables
  pub lo : ℕ
  pub hi : ℕ

-- no place follows, none takes a character, none may be the last one
unfoldable pub no_tables : PlaceTables
no_tables = record { follow = replicate places 0; taking = replicate most_characters 0; last = 0 }

-- one place behind the start, which takes every character and is the last one
unfoldable pub one_place : PlaceTables
one_place = record { follow = 2 ∷ replicate most_leaves 0; taking = replicate most_characters 2; last = 2 }

-- The token with the inner code b; 255, and a field that there is none of, is the end of a side. A field reads the characters of its alphabet, of which
-- there are n.
abbrev pub front_of : ℕ → List PlaceTables → ℕ → Front
front_of n fields b =
    cond (is_char b) (record { of = one_place; lo = b; hi = suc b })
    (record { of = get_or fields (field_of b) no_tables; lo = 0; hi = n })
