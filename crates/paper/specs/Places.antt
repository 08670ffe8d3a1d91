-- Places (document 01, "Places"): which places may follow, which may be last; place sets, stepping, may end; the reachable
-- place sets and their number. Any number of places, any number of characters.
--
-- The start is place 0. The leaves are 1, 2, .. in the order of reading. A part of a pattern has its leaves from `o` on:
-- the place of its first leaf. A place set is the list of its places, rising.
use Rattle.std.specs.Prelude.{ℕ, zero, suc, ◌+◌, ◌^◌, Bool, true, false, ◌&&◌, ◌||◌, not, List, [], ◌∷◌, map, eqb}
use Rattle.paper.specs.Lists.{from, upto, any, keep, each, only, same_by}
use Rattle.paper.specs.Pattern.{takes, Pattern, leaf, empty, then, either, many, Held, some_text, pattern}
use Rattle.paper.specs.Search.{Child, child, Entry, search, entries}

-- the number of leaves
abbrev pub leaves : Pattern → ℕ
leaves (leaf l) = 1
leaves empty = 0
leaves (then a b) = leaves a + leaves b
leaves (either a b) = leaves a + leaves b
leaves (many a) = leaves a

-- does the pattern take the empty text?
abbrev pub takes_empty : Pattern → Bool
takes_empty (leaf l) = false
takes_empty empty = true
takes_empty (then a b) = takes_empty a && takes_empty b
takes_empty (either a b) = takes_empty a || takes_empty b
takes_empty (many a) = true

-- may q be the first leaf of a text?
abbrev pub may_be_first : Pattern → ℕ → ℕ → Bool
may_be_first (leaf l) o q = eqb o q
may_be_first empty o q = false
may_be_first (then a b) o q = may_be_first a o q || (takes_empty a && may_be_first b (o + leaves a) q)
may_be_first (either a b) o q = may_be_first a o q || may_be_first b (o + leaves a) q
may_be_first (many a) o q = may_be_first a o q

-- may the leaf p be the last one of a text?
abbrev pub may_be_last : Pattern → ℕ → ℕ → Bool
may_be_last (leaf l) o p = eqb o p
may_be_last empty o p = false
may_be_last (then a b) o p = may_be_last b (o + leaves a) p || (takes_empty b && may_be_last a o p)
may_be_last (either a b) o p = may_be_last a o p || may_be_last b (o + leaves a) p
may_be_last (many a) o p = may_be_last a o p

-- may the leaf q follow the leaf p?
abbrev pub may_follow : Pattern → ℕ → ℕ → ℕ → Bool
may_follow (leaf l) o p q = false
may_follow empty o p q = false
may_follow (then a b) o p q =
    (may_follow a o p q || may_follow b (o + leaves a) p q) || (may_be_last a o p && may_be_first b (o + leaves a) q)
may_follow (either a b) o p q = may_follow a o p q || may_follow b (o + leaves a) p q
may_follow (many a) o p q = may_follow a o p q || (may_be_last a o p && may_be_first a o q)

-- does the leaf q take the character c?
abbrev pub leaf_takes : Pattern → ℕ → ℕ → ℕ → Bool
leaf_takes (leaf l) o q c = eqb o q && takes l c
leaf_takes empty o q c = false
leaf_takes (then a b) o q c = leaf_takes a o q c || leaf_takes b (o + leaves a) q c
leaf_takes (either a b) o q c = leaf_takes a o q c || leaf_takes b (o + leaves a) q c
leaf_takes (many a) o q c = leaf_takes a o q c

-- The start is a place too: what follows it is what may be first, and it may be the last one "if the pattern takes the empty text".
abbrev pub follows : Pattern → ℕ → ℕ → Bool
follows p zero q = may_be_first p 1 q
follows p (suc i) q = may_follow p 1 (suc i) q

-- Of an open field the start may not be the last one: it holds one character or more (request K5).
abbrev pub ends_at : Held → ℕ → Bool
ends_at some_text zero = false
ends_at some_text (suc i) = true
ends_at (pattern p) zero = takes_empty p
ends_at (pattern p) (suc i) = may_be_last p 1 (suc i)

-- "A field's place set says which leaves may have been the last one read"
abbrev pub PlaceSet : Type 0
PlaceSet = List ℕ

-- the leaves of a pattern, rising
abbrev pub leaf_places : Pattern → PlaceSet
leaf_places p = from 1 (leaves p)

-- "at first it holds only the start"
abbrev pub first_set : PlaceSet
first_set = 0 ∷ []

-- "After a character c it holds each leaf that may follow some place of the set and that takes c." An open field has one place besides
-- its start, which takes every character.
unfoldable pub set_after : Held → PlaceSet → ℕ → PlaceSet
set_after some_text [] c = []
set_after some_text (i ∷ s) c = 1 ∷ []
set_after (pattern p) s c =
    keep (λ (q : ℕ). leaf_takes p 1 q c && any (λ (i : ℕ). follows p i q) s) (leaf_places p)

-- "The set may end if some place in it may be the last one of a text". An open field's may end after a character.
unfoldable pub may_end : Held → PlaceSet → Bool
may_end h s = any (λ (i : ℕ). ends_at h i) s

abbrev pub is_empty : PlaceSet → Bool
is_empty [] = true
is_empty (i ∷ s) = false

abbrev pub same_set : PlaceSet → PlaceSet → Bool
same_set = same_by eqb

-- the set that a text leads to
abbrev pub set_along : Held → PlaceSet → List ℕ → PlaceSet
set_along h s [] = s
set_along h s (c ∷ w) = set_along h (set_after h s c) w

-- "A reachable place set is one that some text leads to and that isn't empty; the first one counts." They are collected by the
-- search over place sets: the children of a set are the sets after each character that are not empty, none is finished, and
-- there is room for every set of leaves and the first one.
abbrev pub sets_after : ℕ → Held → PlaceSet → List (Child PlaceSet ℕ)
sets_after characters h s =
    each (λ (c : ℕ). only (not (is_empty (set_after h s c))) (child c (set_after h s c))) (upto characters)

abbrev pub all_sets : Held → ℕ
all_sets some_text = 2
all_sets (pattern p) = suc (2 ^ leaves p)

unfoldable pub reachable_sets : ℕ → Held → List PlaceSet
reachable_sets characters h =
    map (λ (e : Entry PlaceSet ℕ). e.at)
    (entries
    (search same_set (λ (s : PlaceSet). false) (sets_after characters h) (all_sets h) first_set))
