-- "Characters alike. Two characters are alike on a sheet if neither is a fixed character of a side and every leaf of every standing field
-- takes both or neither." Of any question, so that the hidden fields stand too where it has them.
use Rattle.std.specs.Prelude.{ℕ, Bool, true, false, ◌&&◌, ◌||◌, not, List, [], ◌∷◌, ◌++◌, eqb}
use Rattle.paper.specs.Lists.{upto, any, all, keep}
use Rattle.paper.specs.Numbers.{set_fields}
use Rattle.paper.specs.Pattern.{Held, some_text, pattern}
use Rattle.paper.specs.Places.{leaf_places, leaf_takes}
use Rattle.paper.specs.Equation.{Token, chr, fld, stands_in}
use Rattle.paper.specs.Question.{Question, held_by}

-- the leaves of what a field may hold, by their places; of an open field the place behind its start, which takes every character
abbrev pub leaves_of : Held → List ℕ
leaves_of some_text = 1 ∷ []
leaves_of (pattern p) = leaf_places p

abbrev pub leaf_takes_it : Held → ℕ → ℕ → Bool
leaf_takes_it some_text i c = true
leaf_takes_it (pattern p) i c = leaf_takes p 1 i c

-- both or neither
abbrev pub both_or_neither : Bool → Bool → Bool
both_or_neither true b = b
both_or_neither false b = not b

-- "every leaf .. takes both or neither"
unfoldable pub alike_in : Held → ℕ → ℕ → Bool
alike_in h a b = all (λ (i : ℕ). both_or_neither (leaf_takes_it h i a) (leaf_takes_it h i b)) (leaves_of h)

abbrev pub is_character : ℕ → Token → Bool
is_character c (chr a) = eqb c a
is_character c (fld f) = false

-- "a fixed character of a side"
unfoldable pub fixed : Question → ℕ → Bool
fixed q c = any (is_character c) (q.left ++ q.right)

-- the fields that stand in the sides, rising
unfoldable pub fields_standing : Question → List ℕ
fields_standing q = keep (λ (f : ℕ). stands_in f (q.left ++ q.right)) (upto set_fields)

-- A character is alike to itself.
unfoldable pub alike : Question → ℕ → ℕ → Bool
alike q a b =
    eqb a b || (not (fixed q a) && (not (fixed q b) && all (λ (f : ℕ). alike_in (held_by q f) a b) (fields_standing q)))

-- "the least one alike": no smaller character is alike
unfoldable pub is_least : Question → ℕ → Bool
is_least q c = not (any (λ (a : ℕ). alike q a c) (upto c))

-- the least ones, rising
unfoldable pub least_ones : Question → List ℕ
least_ones q = keep (is_least q) (upto q.alphabet.characters)
