-- How many standings a question has (request K9), by its inner codes and its tables of masks: of any bytes and any masks.
use Rattle.std.specs.Prelude.{ℕ, ◌+◌, ◌*◌, ◌/◌, ◌%◌, Bool, cond, List, [], ◌∷◌, map, ltb, eqb, get_or, take}
use Rattle.std.specs.Int.Bits.{bit_or}
use Rattle.std.specs.Int.Count.{count_trailing_zeros}
use Rattle.paper.specs.Lists.{upto, any}
use Rattle.paper.specs.Numbers.{fields}
use Rattle.base_codes.specs.Inner.{is_char, field_of, tokens}
use Rattle.base_places.specs.Masks.{places, within}
use Rattle.base_places.specs.declared.PlaceTables.{PlaceTables}
use Rattle.base_question.specs.Standings.{standing_times}
use Rattle.base_question.specs.declared.Question.{Question}

-- "if a field stands more than once in the two sides together"
unfoldable pub twice_coded : List ℕ → List ℕ → Bool
twice_coded left right = any (λ (n : ℕ). ltb 1 n) (standing_times left right)

-- the places of the mask, and those that take some character
abbrev pub taken_too : ℕ → List ℕ → ℕ
taken_too m [] = m
taken_too m (its ∷ taking) = taken_too (bit_or m its) taking

-- "its leaves and the start, or two for a field without a pattern", by the places that take some character. The leaves are the places behind the
-- start, as far as there is no gap between them. Of a field without a pattern the start takes some character, too. Only the characters of the alphabet, of
-- which there are n, are looked at.
abbrev pub places_in : ℕ → ℕ
places_in taken = cond (eqb (taken % 2) 1) 2 (1 + count_trailing_zeros places (taken / 2 + 1))

unfoldable pub places_by : ℕ → List ℕ → ℕ
places_by n taking = places_in (taken_too 0 (take n taking))

-- tables that are not there
abbrev pub no_tables : PlaceTables
no_tables = record { follow = []; taking = []; last = 0 }

-- how many places each field has
unfoldable pub all_places : ℕ → List PlaceTables → List ℕ
all_places n tables = map (λ (f : ℕ). places_by n (get_or tables f no_tables).taking) (upto fields)

-- how many standings a token adds
abbrev pub token_adds : List ℕ → ℕ → ℕ
token_adds places b = cond (is_char b) 1 (get_or places (field_of b) 0)

-- "A side has one standing for its end, one for each character and, for each field, one for each of its places"; its hidden field has two
abbrev pub standings_coded : List ℕ → List ℕ → ℕ
standings_coded places [] = 3
standings_coded places (b ∷ side) = token_adds places b + standings_coded places side

unfoldable pub bits_coded : Question → ℕ
bits_coded s =
    let its-places = all_places (within s.alphabet.characters) s.fields in
    standings_coded its-places (tokens s.left) * standings_coded its-places (tokens s.right)
