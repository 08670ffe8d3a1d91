-- Situations (document 01, "The search"): trimming, finished / dead / open, the children in 01's order.
-- Over any number of characters and fields, and any acceptor of the fields' texts: 01's place sets are one.
use Rattle.std.specs.Prelude.{ℕ, Bool, true, false, cond, ◌&&◌, ◌||◌, not, List, [], ◌∷◌, ◌++◌, map, leb, eqb, length, get_or, set}
use Rattle.paper.specs.Lists.{upto, any, only, keep, each, same_by}
use Rattle.paper.specs.Search.{Child, child, long}
use Rattle.paper.specs.Equation.{Token, chr, fld, Side, is_field, stands_in}

-- What reads the texts of the fields: for every field a first set, the set after a character, whether a set may end. Sets that
-- are empty take nothing more. `gone` stands for the set of a field that stands no longer.
pub record Acceptor (P : Type 0) : Type 0 where
  pub characters : ℕ
  pub fields : ℕ
  pub first_set : ℕ → P
  pub set_after : ℕ → P → ℕ → P
  pub may_end : ℕ → P → Bool
  pub is_empty : P → Bool
  pub same_set : P → P → Bool
  pub gone : P

-- "A situation is the two token lists and the place set of each field still standing in them." The sets stand by field number;
-- a field that stands no longer has `gone`, so that situations are the same when all three lists are.
pub record Situation (P : Type 0) : Type 0 where
  pub left : Side
  pub right : Side
  pub sets : List P

abbrev pub same_token : Token → Token → Bool
same_token (chr a) (chr b) = eqb a b
same_token (chr a) (fld g) = false
same_token (fld f) (chr b) = false
same_token (fld f) (fld g) = eqb f g

-- "Trimming drops equal characters from both fronts while there are any."
pub record Sides : Type 0 where
  pub l : Side
  pub r : Side

abbrev pub trim : Side → Side → Sides
trim [] r = record { l = []; r = r }
trim (fld f ∷ l) r = record { l = fld f ∷ l; r = r }
trim (chr a ∷ l) [] = record { l = chr a ∷ l; r = [] }
trim (chr a ∷ l) (fld g ∷ r) = record { l = chr a ∷ l; r = fld g ∷ r }
trim (chr a ∷ l) (chr b ∷ r) =
    let rest = trim l r in cond (eqb a b) rest (record { l = chr a ∷ l; r = chr b ∷ r })

-- "After trimming a situation is finished (both sides empty), dead (two different characters in front, or one side empty and a
-- character in front of the other) or open."
pub data Kind : Type 0 where
  is_finished : Kind
  is_dead : Kind
  is_open : Kind

abbrev pub kind_of : Side → Side → Kind
kind_of [] [] = is_finished
kind_of [] (chr b ∷ r) = is_dead
kind_of [] (fld g ∷ r) = is_open
kind_of (chr a ∷ l) [] = is_dead
kind_of (chr a ∷ l) (chr b ∷ r) = cond (eqb a b) is_open is_dead
kind_of (chr a ∷ l) (fld g ∷ r) = is_open
kind_of (fld f ∷ l) r = is_open

-- every standing of the field is struck
abbrev pub strike_in : ℕ → Side → Side
strike_in f [] = []
strike_in f (t ∷ side) = only (not (is_field f t)) t ++ strike_in f side

-- "put c before .. that field wherever that field stands"
abbrev pub put_in : ℕ → ℕ → Side → Side
put_in c f [] = []
put_in c f (t ∷ side) = only (is_field f t) (chr c) ++ (t ∷ put_in c f side)

-- the field in front of a side, if a field is
abbrev pub front_field : Side → List ℕ
front_field [] = []
front_field (chr a ∷ side) = []
front_field (fld f ∷ side) = f ∷ []

-- "Where both fronts are one field, this is done once."
abbrev pub front_fields : Side → Side → List ℕ
front_fields l r = front_field l ++ keep (λ (g : ℕ). not (any (eqb g) (front_field l))) (front_field r)

-- the three kinds of step
pub data Move : Type 0 where
  strike_left : Move
  strike_right : Move
  put : ℕ → Move

module _ {P : Type 0} (A : Acceptor P) where
  abbrev pub set_of : Situation P → ℕ → P
  set_of s f = get_or s.sets f A.gone

  abbrev pub same_situation : Situation P → Situation P → Bool
  same_situation s t =
      same_by same_token s.left t.left && (same_by same_token s.right t.right && same_by A.same_set s.sets t.sets)

  unfoldable pub trimmed : Situation P → Situation P
  trimmed s = record { left = (trim s.left s.right).l; right = (trim s.left s.right).r; sets = s.sets }

  abbrev pub kind : Situation P → Kind
  kind s = kind_of s.left s.right

  -- "strike it everywhere"
  unfoldable pub strike : ℕ → Situation P → Situation P
  strike f s = record { left = strike_in f s.left; right = strike_in f s.right; sets = set s.sets f A.gone }

  -- "put c before .. that field wherever that field stands, and give the field its new set"
  unfoldable pub put_before : ℕ → ℕ → Situation P → Situation P
  put_before c f s =
      record {
        left = put_in c f s.left;
        right = put_in c f s.right;
        sets = set s.sets f (A.set_after f (set_of s f) c);
      }

  abbrev pub put_before_all : ℕ → List ℕ → Situation P → Situation P
  put_before_all c [] s = s
  put_before_all c (f ∷ fs) s = put_before_all c fs (put_before c f s)

  abbrev pub strike_all : List ℕ → Situation P → Situation P
  strike_all [] s = s
  strike_all (f ∷ fs) s = strike_all fs (strike f s)

  -- the situation that a move makes, before trimming
  abbrev pub moved : Situation P → Move → Situation P
  moved s strike_left = strike_all (front_field s.left) s
  moved s strike_right = strike_all (front_field s.right) s
  moved s (put c) = put_before_all c (front_fields s.left s.right) s

  -- "a field whose set may end"
  abbrev pub front_may_end : Situation P → List ℕ → Bool
  front_may_end s fs = any (λ (f : ℕ). A.may_end f (set_of s f)) fs

  -- "a character in front must be c, and each front field's set after c must not be empty"; "if neither side is empty"
  abbrev pub front_takes : Situation P → ℕ → Side → Bool
  front_takes s c [] = false
  front_takes s c (chr a ∷ side) = eqb a c
  front_takes s c (fld f ∷ side) = not (A.is_empty (A.set_after f (set_of s f) c))

  -- "The children of an open one, in this order: 1. the left front is a field whose set may end: strike it everywhere; 2. the right
  -- front is a field, not the same as the left front, whose set may end: strike it everywhere; 3. if neither side is empty, for each
  -- character c .."
  unfoldable pub open_moves : Situation P → List Move
  open_moves s =
      only (front_may_end s (front_field s.left)) strike_left
      ++ (only
      (front_may_end s (keep (λ (g : ℕ). not (any (eqb g) (front_field s.left))) (front_field s.right)))
      strike_right
      ++ map put (keep (λ (c : ℕ). front_takes s c s.left && front_takes s c s.right) (upto A.characters)))

  -- "a dead one has no children", and a finished one has none
  abbrev pub moves_of : Kind → Situation P → List Move
  moves_of is_finished s = []
  moves_of is_dead s = []
  moves_of is_open s = open_moves s

  -- "a side above .. tokens gives 19"
  abbrev pub side_above : ℕ → Situation P → Bool
  side_above limit s = not (leb (length s.left) limit) || not (leb (length s.right) limit)

  -- "Each child is trimmed, then: dead is dropped; a side above 48 tokens gives 19"
  abbrev pub kept : Kind → Bool → Move → Situation P → List (Child (Situation P) Move)
  kept is_dead above m t = []
  kept is_finished above m t = cond above long (child m t) ∷ []
  kept is_open above m t = cond above long (child m t) ∷ []

  unfoldable pub child_by : ℕ → Situation P → Move → List (Child (Situation P) Move)
  child_by limit s m =
      kept (kind (trimmed (moved s m))) (side_above limit (trimmed (moved s m))) m (trimmed (moved s m))

  unfoldable pub children : ℕ → Situation P → List (Child (Situation P) Move)
  children limit s = each (child_by limit s) (moves_of (kind s) s)

  -- the test for the search
  abbrev pub kind_finished : Kind → Bool
  kind_finished is_finished = true
  kind_finished is_dead = false
  kind_finished is_open = false

  abbrev pub finished : Situation P → Bool
  finished s = kind_finished (kind s)

  -- "The trimmed question": each field that stands has its first set
  unfoldable pub question : Side → Side → Situation P
  question l r =
      trimmed
      (record {
        left = l;
        right = r;
        sets = map (λ (f : ℕ). cond (stands_in f (l ++ r)) (A.first_set f) A.gone) (upto A.fields);
      })
