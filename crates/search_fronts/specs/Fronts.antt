-- A token in front by its inner code: what is worked out once of it for all characters, and which characters both fronts take.
use Rattle.std.specs.Prelude.{ℕ, Bool, cond, ◌&&◌, not, List, [], ltb, eqb, get_or}
use Rattle.std.specs.Int.Bits.{bit_and}
use Rattle.paper.specs.Numbers.{set_fields}
use Rattle.base_places.specs.Masks.{followers_of}
use Rattle.base_codes.specs.Inner.{is_field_code, field_of}
use Rattle.search_fronts.specs.declared.FrontToken.{FrontToken}

-- A token in front with what is worked out once of it for all characters: the places that may follow those of its field's set, and what each
-- character lets through.
pub record Front : Type 0 where
  pub token : ℕ
  pub followers : ℕ
  pub row : List ℕ

-- the number of the row of the field with the token b, in a table with one for each field; that of field 0 where there is no such field
unfoldable pub row_number : ℕ → ℕ
row_number b = cond (ltb (field_of b) set_fields) (field_of b) 0

-- the front that a token with the number of its row is by such a table
abbrev pub with_row : List (List ℕ) → FrontToken → Front
with_row taking t = record { token = t.token; followers = t.followers; row = get_or taking t.row [] }

-- a front with what is worked out once of it for all characters
unfoldable pub front_from : List (List ℕ) → List (List ℕ) → List ℕ → ℕ → Front
front_from follow taking sets b =
    record {
      token = b;
      followers = followers_of (get_or follow (field_of b) []) (get_or sets (field_of b) 0);
      row = get_or taking (row_number b) [];
    }

-- the set of the front's field after c
abbrev pub set_by : Front → ℕ → ℕ
set_by f c = bit_and f.followers (get_or f.row c 0)

-- "a character in front must be c, and each front field's set after c must not be empty"; "if neither side is empty"
unfoldable pub takes_next : ℕ → ℕ → ℕ → Bool
takes_next b next c = cond (is_field_code b) (not (eqb next 0)) (eqb b c)

-- do both fronts take c?
abbrev pub both_take : Front → Front → ℕ → Bool
both_take l r c = takes_next l.token (set_by l c) c && takes_next r.token (set_by r c) c
