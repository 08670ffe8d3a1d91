-- A child of a situation (document 01, "The search"), with no word of the search's list of them, and what 01 says of its token total.
use Rattle.std.specs.Prelude.{ℕ, ◌+◌, ◌≤◌, ◌≡◌, cond, eqb, length}
use mathlib.Core.List.{Memᴰ}
use Rattle.paper.specs.Lists.{keep}
use Rattle.paper.specs.Equation.{Side, is_field}
use Rattle.paper.specs.Situation.{Acceptor, Situation, is_dead, front_fields, Move, kind, trimmed, moved, moves_of}

-- t is a child of s: what the move m, one of those of s, makes, trimmed. "Dead is dropped".
pub record ChildOf {P : Type 0} (A : Acceptor P) (s : Situation P) (m : Move) (t : Situation P) : Type 0 where
  pub is_move : Memᴰ m (moves_of A (kind A s) s)
  pub makes : t ≡ trimmed A (moved A s m)
  pub alive : kind A t ≡ is_dead → ⊥

-- "Where a field stands at most twice": each field, in the two sides together
abbrev pub times_in : ℕ → Side → ℕ
times_in f side = length (keep (is_field f) side)

abbrev pub AtMostTwice : Side → Side → Type 0
AtMostTwice l r = (f : ℕ) → times_in f l + times_in f r ≤ 2

abbrev pub token_total : Side → Side → ℕ
token_total l r = length l + length r

-- "two more where two different fields stood in front"
abbrev pub two_more : Side → Side → ℕ
two_more l r = cond (eqb (length (front_fields l r)) 2) 2 0

-- "a child's token total is at most its parent's, or two more where two different fields stood in front"
abbrev pub TotalBounded : {P : Type 0} → Situation P → Situation P → Type 0
TotalBounded s t = token_total t.left t.right ≤ token_total s.left s.right + two_more s.left s.right
