-- The children of a situation by inner codes, in document 01's order.
-- Everything here is a step between the code and the definitions of the crate `paper`; proofs/ ties it to them.
use Rattle.std.specs.Prelude.{ℕ, ◌+◌, Bool, cond, ◌&&◌, ◌||◌, not, List, [], ◌∷◌, ◌++◌, leb, ltb, eqb, length, get_or, set, drop}
use Rattle.std.specs.Int.Bits.{bit_and}
use Rattle.paper.specs.Lists.{upto, only, keep, each}
use Rattle.paper.specs.Numbers.{most_characters, longest_side}
use Rattle.paper.specs.Search.{Child, child, long}
use Rattle.base_codes.specs.Inner.{field_code, left_struck, right_struck, is_char, is_field_code, field_of, front}
use Rattle.base_codes.specs.Coded.{Coded, none}
use Rattle.search_trim.specs.Trimming.{alike_in_front}
use Rattle.search_fronts.specs.Fronts.{Front, front_from, set_by, both_take}

-- what is worked out once of the fields: how many characters there are, the follow sets, what each character lets through, which places may be last
pub record Tables : Type 0 where
  pub characters : ℕ
  pub follow : List (List ℕ)
  pub taking : List (List ℕ)
  pub last : List ℕ

-- "strike it everywhere"
abbrev pub strike_codes : ℕ → List ℕ → List ℕ
strike_codes b side = keep (λ (x : ℕ). not (eqb x b)) side

-- "put c before each front field wherever that field stands": a and b are the tokens in front
abbrev pub put_codes : ℕ → ℕ → ℕ → List ℕ → List ℕ
put_codes c a b [] = []
put_codes c a b (x ∷ side) = only (leb field_code x && (eqb x a || eqb x b)) c ++ (x ∷ put_codes c a b side)

-- "dead": of trimmed sides
abbrev pub dead_sides : List ℕ → List ℕ → Bool
dead_sides l r = (is_char (front l) && (none r || is_char (front r))) || (none l && is_char (front r))

-- what becomes of a child: dropped where it is dead or its move is not allowed, too long, or made
pub data Settled : Type 0 where
  dropped : Settled
  above : Settled
  made : Coded → Settled

unfoldable pub judged_sides : List ℕ → List ℕ → List ℕ → Settled
judged_sides l r sets =
    cond (dead_sides l r) dropped
    (cond (not (leb (length l) longest_side) || not (leb (length r) longest_side)) above
    (made (record { left = l; right = r; sets = sets })))

-- "Each child is trimmed, then: dead is dropped; a side above 48 tokens gives 19"
unfoldable pub settle : List ℕ → List ℕ → List ℕ → Settled
settle l r sets = judged_sides (drop (alike_in_front l r) l) (drop (alike_in_front l r) r) sets

-- the sets with the field's new one, where the token is a field's
abbrev pub with_set : ℕ → ℕ → List ℕ → List ℕ
with_set b m sets = cond (is_field_code b) (set sets (field_of b) m) sets

-- the child by striking the field with the token b
unfoldable pub struck : Coded → ℕ → Settled
struck s b = settle (strike_codes b s.left) (strike_codes b s.right) (with_set b 0 s.sets)

-- the child by putting c before the front fields, whose new sets are m and n
unfoldable pub put_child : Coded → ℕ → ℕ → ℕ → Settled
put_child s c m n =
    settle (put_codes c (front s.left) (front s.right) s.left) (put_codes c (front s.left) (front s.right) s.right)
    (with_set (front s.right) n (with_set (front s.left) m s.sets))

-- "a field whose set may end": of the field with the token b
unfoldable pub may_end_at : List ℕ → List ℕ → ℕ → Bool
may_end_at sets last b = is_field_code b && not (eqb (bit_and (get_or sets (field_of b) 0) (get_or last (field_of b) 0)) 0)

-- "1. the left front is a field whose set may end: strike it everywhere"
unfoldable pub left_strike : List ℕ → Coded → Settled
left_strike last s = cond (may_end_at s.sets last (front s.left)) (struck s (front s.left)) dropped

-- "2. the right front is a field, not the same as the left front, whose set may end: strike it everywhere"
unfoldable pub right_strike : List ℕ → Coded → Settled
right_strike last s =
    cond (may_end_at s.sets last (front s.right) && not (eqb (front s.right) (front s.left)))
    (struck s (front s.right))
    dropped

-- "3. .. a character in front must be c, and each front field's set after c must not be empty; put c before each front field"
unfoldable pub put_of : Coded → Front → Front → ℕ → Settled
put_of s l r c = cond (both_take l r c) (put_child s c (set_by l c) (set_by r c)) dropped

abbrev pub as_child : ℕ → Settled → List (Child Coded ℕ)
as_child step dropped = []
as_child step above = long ∷ []
as_child step (made s) = child step s ∷ []

-- what puts make, for each of n characters
abbrev pub puts_of : ℕ → Coded → Front → Front → List (Child Coded ℕ)
puts_of n s l r = each (λ (c : ℕ). as_child c (put_of s l r c)) (upto n)

-- the children of a situation, in 01's order
unfoldable pub children_coded : Tables → Coded → List (Child Coded ℕ)
children_coded T s =
    as_child left_struck (left_strike T.last s)
    ++ (as_child right_struck (right_strike T.last s)
    ++ puts_of T.characters s (front_from T.follow T.taking s.sets (front s.left)) (front_from T.follow T.taking s.sets (front s.right)))

-- the character, if the step from the situation put one before the field f
unfoldable pub given_coded : ℕ → Coded → ℕ → List ℕ
given_coded f s step =
    only (ltb step most_characters && (eqb (front s.left) (field_code + f) || eqb (front s.right) (field_code + f))) step
