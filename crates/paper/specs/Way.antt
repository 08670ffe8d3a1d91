-- The search of document 01 on a question, and the texts that a way spells.
use Rattle.std.specs.Prelude.{ℕ, List, [], ◌∷◌, ◌++◌, reverse}
use Rattle.paper.specs.Lists.{member, only}
use Rattle.paper.specs.Search.{Entry, State, search}
use Rattle.paper.specs.Equation.{Side, Texts}
use Rattle.paper.specs.Situation.{Acceptor, Situation, Move, strike_left, strike_right, put, front_fields, trimmed, moved, same_situation, finished, children, question}

module _ {P : Type 0} (A : Acceptor P) where
  -- the search from the trimmed question, with a limit on the sides and a room
  unfoldable pub search_from : ℕ → ℕ → Side → Side → State (Situation P) Move
  search_from limit room l r = search (same_situation A) (finished A) (children A limit) room (question A l r)

  -- the character, if the move puts one before the field
  abbrev pub given : ℕ → Situation P → Move → List ℕ
  given f s strike_left = []
  given f s strike_right = []
  given f s (put c) = only (member f (front_fields s.left s.right)) c

  -- "A field's text is the characters put before it on the way from the start to the finish"
  abbrev pub text_along : ℕ → Situation P → List Move → List ℕ
  text_along f s [] = []
  text_along f s (m ∷ ms) = given f s m ++ text_along f (trimmed A (moved A s m)) ms

  -- the texts of the way to an entry; an entry has its last move first
  unfoldable pub texts_of : Side → Side → Entry (Situation P) Move → Texts
  texts_of l r e f = text_along f (question A l r) (reverse e.way)
