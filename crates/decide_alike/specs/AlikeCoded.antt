-- Characters alike and few characters, by inner codes and masks. The mask of a character in a field's row of the tables is the set of places that
-- take it: equal masks say that every leaf takes both or neither. The characters are those below n, of any edition (request K10); marks have room for
-- the characters of Full ASCII.
-- Everything here is a step between the code and the definitions of the crate `paper_decide`; proofs/AlikeTies.antt ties it to them.
use Rattle.std.specs.Prelude.{ℕ, Option, Some, None, zero, suc, ◌+◌, Bool, true, false, cond, ◌&&◌, ◌||◌, not, List, [], ◌++◌, map, ltb, eqb, get_or, set, replicate}
use Rattle.paper.specs.Lists.{upto, any, all, member}
use Rattle.paper.specs.Numbers.{most_characters, set_fields}
use Rattle.base_places.specs.Masks.{places, in_mask, within}
use Rattle.base_codes.specs.Inner.{field_code, tokens}
use Rattle.base_question.specs.declared.Question.{Question}
use Rattle.search_hidden.specs.Behind.{with_hidden}
use Rattle.search_tables.specs.Cut.{listed_by}
use Rattle.search_tables.specs.Tables.{taking_of}
use Rattle.decide_alike.specs.declared.LeastOnes.{LeastOnes}

-- what becomes of x by the steps 0, 1, .. : n of them
unfoldable pub stepped : {A : Type 0} → (ℕ → A → A) → ℕ → A → A
stepped step zero x = x
stepped step (suc n) x = step n (stepped step n x)

-- the first of a, a + 1, .., which are n numbers, that passes the test; the number behind them, where none does
unfoldable pub first_from : (ℕ → Bool) → ℕ → ℕ → ℕ
first_from t a zero = a
first_from t a (suc n) = cond (t a) a (first_from t (suc a) n)

-- the marks of the numbers below n that pass the test; none from n on is marked
unfoldable pub marked_by : (ℕ → Bool) → ℕ → List Bool
marked_by t n = listed_by (λ (c : ℕ). ltb c n && t c) most_characters

-- "a fixed character of a side": for every character, of the codes of both sides
unfoldable pub fixed_coded : ℕ → List ℕ → List Bool
fixed_coded n codes = marked_by (λ (c : ℕ). member c codes) n

-- for every field, does it stand?
unfoldable pub standing_coded : List ℕ → List Bool
standing_coded codes = listed_by (λ (f : ℕ). member (field_code + f) codes) set_fields

-- the places of the field f that take the character c
abbrev pub mask_at : List (List ℕ) → ℕ → ℕ → ℕ
mask_at taking f c = get_or (get_or taking f []) c 0

abbrev pub same_in : List Bool → List (List ℕ) → ℕ → ℕ → ℕ → Bool
same_in standing taking a b f = not (get_or standing f false) || eqb (mask_at taking f a) (mask_at taking f b)

unfoldable pub same_places : List Bool → List (List ℕ) → ℕ → ℕ → Bool
same_places standing taking a b = all (same_in standing taking a b) (upto set_fields)

-- "if neither is a fixed character of a side and every leaf of every standing field takes both or neither": of two different characters
unfoldable pub alike_coded : List Bool → List Bool → List (List ℕ) → ℕ → ℕ → Bool
alike_coded fixed standing taking a b =
    not (get_or fixed a false) && (not (get_or fixed b false) && same_places standing taking a b)

-- no smaller character is alike
unfoldable pub is_least_coded : List Bool → List Bool → List (List ℕ) → ℕ → Bool
is_least_coded fixed standing taking c = not (any (λ (a : ℕ). alike_coded fixed standing taking a c) (upto c))

unfoldable pub least_from : ℕ → List Bool → List Bool → List (List ℕ) → List Bool
least_from n fixed standing taking = marked_by (is_least_coded fixed standing taking) n

-- the codes of both sides of a question with its hidden fields, and what each field's places take
abbrev pub codes_in : Question → List ℕ
codes_in s = tokens (with_hidden s).left ++ tokens (with_hidden s).right

abbrev pub taking_in : Question → List (List ℕ)
taking_in s = map taking_of (with_hidden s).fields

-- how many characters it has: no more than there is room for
abbrev pub many_in : Question → ℕ
many_in s = within s.alphabet.characters

-- for every character, is it the least one alike? Of the codes of both sides, and what each field's places take
abbrev pub ones_from : ℕ → List ℕ → List (List ℕ) → LeastOnes
ones_from n codes taking =
    let fixed = fixed_coded n codes in
    let standing = standing_coded codes in
    record { fixed = fixed; standing = standing; least = least_from n fixed standing taking }

unfoldable pub least_coded : Question → LeastOnes
least_coded s = ones_from (many_in s) (codes_in s) (taking_in s)

-- the character c is among these, and the place p takes it
abbrev pub taken_coded : List Bool → List ℕ → ℕ → ℕ → Bool
taken_coded among row p c = get_or among c false && in_mask (get_or row c 0) p

-- the first of these that the place takes; behind the last character, where it takes none
unfoldable pub first_taken : ℕ → List Bool → List ℕ → ℕ → ℕ
first_taken n among row p = first_from (taken_coded among row p) 0 n

-- a number below n; none where it is not below
abbrev pub if_below : ℕ → ℕ → Option ℕ
if_below n c = cond (ltb c n) (Some c) None

-- the least ones that stand fixed in no side
unfoldable pub free_coded : ℕ → List Bool → List Bool → List Bool
free_coded n fixed least = marked_by (λ (c : ℕ). get_or least c false && not (get_or fixed c false)) n

-- "the least of the least ones that it takes and that stands fixed in no side, or where there is none the least that it takes"
unfoldable pub choice_coded : ℕ → List Bool → List Bool → List ℕ → ℕ → ℕ
choice_coded n free least row p = cond (ltb (first_taken n free row p) n) (first_taken n free row p) (first_taken n least row p)

-- with the character c, if it is one
unfoldable pub with_mark : ℕ → ℕ → List Bool → List Bool
with_mark n c chosen = cond (ltb c n) (set chosen c true) chosen

-- "for each leaf .. that takes none chosen so far"
unfoldable pub chosen_at : ℕ → List Bool → List Bool → List ℕ → ℕ → List Bool → List Bool
chosen_at n free least row p chosen =
    cond (ltb (first_taken n chosen row p) n) chosen (with_mark n (choice_coded n free least row p) chosen)

-- Every place is walked. One that is no leaf takes nothing, and of an open field each takes what the others take.
unfoldable pub chosen_within : ℕ → List Bool → List Bool → List ℕ → List Bool → List Bool
chosen_within n free least row chosen = stepped (chosen_at n free least row) places chosen

-- "fields rising": of those that stand
unfoldable pub chosen_of : ℕ → List Bool → List Bool → List Bool → List (List ℕ) → ℕ → List Bool → List Bool
chosen_of n free least standing taking f chosen =
    cond (get_or standing f false) (chosen_within n free least (get_or taking f []) chosen) chosen

unfoldable pub chosen_coded : ℕ → List Bool → List Bool → List Bool → List (List ℕ) → List Bool
chosen_coded n free least standing taking = stepped (chosen_of n free least standing taking) set_fields (replicate most_characters false)

-- "where nothing is chosen, the least of all", which is 0
unfoldable pub some_coded : ℕ → List Bool → List Bool
some_coded n chosen = cond (any (λ (c : ℕ). get_or chosen c false) (upto n)) chosen (set chosen 0 true)

-- for every character, is it one of the few?
abbrev pub few_from : ℕ → List (List ℕ) → LeastOnes → List Bool
few_from n taking ones =
    some_coded n (chosen_coded n (free_coded n ones.fixed ones.least) ones.least ones.standing taking)

unfoldable pub few_coded : Question → LeastOnes → List Bool
few_coded s ones = few_from (many_in s) (taking_in s) ones

-- the marks of the least ones, or of the few
unfoldable pub characters_coded : Question → Bool → List Bool
characters_coded s fewer = cond fewer (few_coded s (least_coded s)) (least_coded s).least
