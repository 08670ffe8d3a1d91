-- The rows of the tokens in front: for each field what is worked out of it, then a row for every character and one for a side's end. A token in front is
-- the number of its row, and the characters that it may read.
use Rattle.std.specs.Prelude.{ℕ, suc, cond, List, [], ◌∷◌, ◌++◌, ltb, get_or}
use Rattle.paper.specs.Numbers.{set_fields}
use Rattle.base_places.specs.declared.PlaceTables.{PlaceTables}
use Rattle.base_codes.specs.Inner.{field_of, is_char}
use Rattle.plain_rows.specs.Fronts.{Front, no_tables, one_place}
use Rattle.plain_rows.specs.declared.Token.{Token}

-- the row of every character, and the row of a side's end
abbrev pub character_row : ℕ
character_row = set_fields

abbrev pub end_row : ℕ
end_row = suc set_fields

abbrev pub rows : ℕ
rows = suc end_row

abbrev pub rows_of : List PlaceTables → List PlaceTables
rows_of fields = fields ++ (one_place ∷ no_tables ∷ [])

-- the token with the inner code b, over n characters
unfoldable pub token_of : ℕ → ℕ → Token
token_of n b =
    cond (is_char b) (record { row = character_row; lo = b; hi = suc b })
    (cond (ltb (field_of b) set_fields) (record { row = field_of b; lo = 0; hi = n })
    (record { row = end_row; lo = 0; hi = n }))

-- a token by its rows
abbrev pub front_by : List (List ℕ) → List (List ℕ) → List ℕ → Token → Front
front_by follow taking last t =
    record {
      of = record { follow = get_or follow t.row []; taking = get_or taking t.row []; last = get_or last t.row 0 };
      lo = t.lo;
      hi = t.hi;
    }
