-- The expression that the script's expression of a pattern is read as: operator by operator. A range of the first edition is the union of its
-- characters from the left, one of the second is a span.
use Prim.Native.Nat.{ℕ, zero, suc, ◌-◌}
use mathlib.Core.List.{List, [], ◌∷◌}
use Rattle.paper.specs.Lists.{from}
use Rattle.paper.specs.Pattern.{char, range, Pattern, leaf, empty, then, either, many, Held, some_text, pattern}
use Rattle.paper.specs.Alphabet.{Edition, edition_1, edition_2}
use Rattle.paper_script.specs.Language.{Expression, to_re, span, concat, union, star}
use Rattle.paper_script.specs.Script.{point, some_characters}

-- one character
abbrev pub alone : Edition → ℕ → Expression
alone e c = to_re (point e c ∷ [])

-- (re.union A B C) is (re.union (re.union A B) C)
abbrev pub unions : Edition → Expression → List ℕ → Expression
unions e x [] = x
unions e x (c ∷ l) = unions e (union x (alone e c)) l

-- a range from lo to hi that has so many characters behind its first
abbrev pub several_tree : Edition → ℕ → ℕ → ℕ → Expression
several_tree edition_1 lo hi more = unions edition_1 (alone edition_1 lo) (from (suc lo) more)
several_tree edition_2 lo hi more = span (point edition_2 lo ∷ []) (point edition_2 hi ∷ [])

abbrev pub range_tree : Edition → ℕ → ℕ → ℕ → Expression
range_tree e lo hi zero = alone e lo
range_tree e lo hi (suc more) = several_tree e lo hi (suc more)

abbrev pub tree : Edition → Pattern → Expression
tree e (leaf (char c)) = alone e c
tree e (leaf (range lo hi)) = range_tree e lo hi (hi - lo)
tree e empty = to_re []
tree e (then a b) = concat (tree e a) (tree e b)
tree e (either a b) = union (tree e a) (tree e b)
tree e (many a) = star (tree e a)

abbrev pub tree_of : Edition → Held → Expression
tree_of e some_text = tree e (some_characters e)
tree_of e (pattern p) = tree e p
