-- Situations by inner codes: a token is a number, a place set is a mask. How the struct of the code holds them: every struct holds a
-- situation; one that the code makes is laid out in one way.
use Rattle.std.specs.Prelude.{ℕ, ◌≤◌, ◌≡◌, Bool, true, false, ◌&&◌, List, [], ◌∷◌, eqb, length}
use Rattle.paper.specs.Lists.{all, same_by}
use Rattle.paper.specs.Numbers.{set_fields, longest_side}
use Rattle.base_codes.specs.Inner.{is_code, tokens, padded}
use Rattle.base_codes.specs.declared.Situation.{Situation}

-- the two token lists, and the place sets by field; the set of a field that is gone is 0
pub record Coded : Type 0 where
  pub left : List ℕ
  pub right : List ℕ
  pub sets : List ℕ

abbrev pub none : List ℕ → Bool
none [] = true
none (b ∷ side) = false

-- "finished"
abbrev pub finished_coded : Coded → Bool
finished_coded s = none s.left && none s.right

abbrev pub same_coded : Coded → Coded → Bool
same_coded s t =
    same_by eqb s.left t.left && (same_by eqb s.right t.right && same_by eqb s.sets t.sets)

-- the situation that a struct holds
abbrev pub denoted : Situation → Coded
denoted s = record { left = tokens s.left; right = tokens s.right; sets = s.sets }

-- the struct that the code makes for a situation
abbrev pub as_struct : Coded → Situation
as_struct s = record { left = padded s.left; right = padded s.right; sets = s.sets }

-- A situation that a struct can hold: sides of at most 48 tokens, none of which is 255, and a set for each field.
pub record Short (s : Coded) : Type 0 where
  pub left : length s.left ≤ longest_side
  pub right : length s.right ≤ longest_side
  pub sets : length s.sets ≡ set_fields
  pub left_tokens : all is_code s.left ≡ true
  pub right_tokens : all is_code s.right ≡ true
