-- "tables in which no place takes another character": what the places of each field take of some characters, which have a mark each. Of an alphabet of n
-- characters no place takes one from n on (request K10).
use Rattle.std.specs.Prelude.{ℕ, Bool, false, cond, ◌&&◌, List, [], map, ltb, get_or}
use Rattle.paper.specs.Lists.{upto}
use Rattle.paper.specs.Numbers.{most_characters, set_fields}

-- h 0, h 1, .. : n of them
unfoldable pub listed_by : {A : Type 0} → (ℕ → A) → ℕ → List A
listed_by h n = map h (upto n)

-- what a field's places take of the characters below n that are marked
unfoldable pub cut_row : ℕ → List Bool → List ℕ → List ℕ
cut_row n among row = listed_by (λ (c : ℕ). cond (ltb c n && get_or among c false) (get_or row c 0) 0) most_characters

unfoldable pub cut_coded : ℕ → List (List ℕ) → List Bool → List (List ℕ)
cut_coded n taking among = listed_by (λ (f : ℕ). cut_row n among (get_or taking f [])) set_fields
