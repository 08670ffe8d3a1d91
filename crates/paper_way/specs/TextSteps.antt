-- The steps that spell texts, by document 01's rules: "strike a front field whose text is used up, the left one first; otherwise put the next
-- character". From entry to entry, as the search and the player go, with what is left of each text.
use Rattle.std.specs.Prelude.{ℕ, zero, suc, ◌-◌, Bool, false, cond, List, [], ◌∷◌, eqb, length, get_or, drop, replicate}
use Rattle.paper.specs.Lists.{member}
use Rattle.paper.specs.Numbers.{hidden_left, hidden_right}
use Rattle.paper.specs.Places.{PlaceSet}
use Rattle.paper.specs.Search.{Entry}
use Rattle.paper.specs.Equation.{chr, fld, Side, Texts, label}
use Rattle.paper.specs.Situation.{Situation, Move, strike_left, strike_right, put, front_fields, finished}
use Rattle.paper.specs.Question.{Question, hidden, acceptor}
use Rattle.paper_steps.specs.Player.{most_steps, step_made, Played, stopped, arrived, made_on, first_entry}

-- The hidden fields hold the spaces that the shorter label lacks.
abbrev pub spaced : Question → Texts → Texts
spaced q texts f =
    let l = length (label texts q.left) in
    let r = length (label texts q.right) in
    cond (eqb f hidden_left) (replicate (r - l) q.alphabet.space)
    (cond (eqb f hidden_right) (replicate (l - r) q.alphabet.space) (texts f))

-- a field is in front, and its text is used up
abbrev pub used_up : Texts → Side → Bool
used_up texts [] = false
used_up texts (chr a ∷ side) = false
used_up texts (fld f ∷ side) = eqb (length (texts f)) 0

-- no character of any edition
abbrev pub no_character : ℕ
no_character = 255

-- "the next character" of a side's label
abbrev pub next_character : Texts → Side → ℕ
next_character texts [] = no_character
next_character texts (chr a ∷ side) = a
next_character texts (fld f ∷ side) = get_or (texts f) 0 no_character

-- the step that the texts want; none where the two labels go on with different characters
pub data Next : Type 0 where
  no_step : Next
  next : Move → Next

-- "the left one first"
unfoldable pub next_step : Texts → Side → Side → Next
next_step texts l r =
    cond (used_up texts l) (next strike_left)
    (cond (used_up texts r) (next strike_right)
    (cond (eqb (next_character texts l) (next_character texts r)) (next (put (next_character texts l))) no_step))

-- what is left of the texts behind a step: a character that was put is one of each front field's
abbrev pub texts_behind : Texts → Situation PlaceSet → Move → Texts
texts_behind texts s strike_left f = texts f
texts_behind texts s strike_right f = texts f
texts_behind texts s (put c) f = cond (member f (front_fields s.left s.right)) (drop 1 (texts f)) (texts f)

-- no step that makes a child: 48
abbrev pub next_on : (Entry (Situation PlaceSet) Move → Move → Played) → Entry (Situation PlaceSet) Move → Next → Played
next_on go_on e no_step = stopped 48
next_on go_on e (next m) = go_on e m

module _ (q : Question) where
  -- So many steps may still come. 50 for one past them, then 48, then 19, as the player has it.
  abbrev pub spell_from : ℕ → Entry (Situation PlaceSet) Move → Texts → Played
  spell_from zero e texts = cond (finished (acceptor q) e.at) (arrived e) (stopped 50)
  spell_from (suc left) e texts =
      cond (finished (acceptor q) e.at) (arrived e)
      (next_on
      (λ (d : Entry (Situation PlaceSet) Move) (m : Move).
      made_on (λ (b : Entry (Situation PlaceSet) Move) (later : List ℕ). spell_from left b (texts_behind texts e.at m)) d m [] (step_made q d.at m))
      e (next_step texts e.at.left e.at.right))

-- from the trimmed question on, with the spaces of the hidden fields
unfoldable pub spelled : Question → Texts → Played
spelled q texts = spell_from (hidden q) most_steps (first_entry (hidden q)) (spaced q texts)
