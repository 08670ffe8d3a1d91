-- The records of steps (request K14): how a way is written, and what stands in front of bytes that may be anything.
use Rattle.std.specs.Prelude.{ℕ, ◌<◌, cond, ◌&&◌, List, [], ◌∷◌, ◌++◌, ltb, eqb}
use Rattle.paper.specs.Situation.{Move, strike_left, strike_right, put}

-- the mark `ST`
abbrev pub step_mark_1 : ℕ
step_mark_1 = 83

abbrev pub step_mark_2 : ℕ
step_mark_2 = 84

-- "mark `ST`, a kind byte (0 left front struck, 1 right front struck, 2 a character) and for kind 2 its value"
abbrev pub step_record : Move → List ℕ
step_record strike_left = step_mark_1 ∷ step_mark_2 ∷ 0 ∷ []
step_record strike_right = step_mark_1 ∷ step_mark_2 ∷ 1 ∷ []
step_record (put c) = step_mark_1 ∷ step_mark_2 ∷ 2 ∷ c ∷ []

-- The records of a way, one behind the other, the first step's first. A way has its last move first, as an entry of the search has it.
abbrev pub step_records : List Move → List ℕ
step_records [] = []
step_records (m ∷ way) = step_records way ++ step_record m

-- "a value that is no character" is none of a step's: the steps that can be written, where there are n characters
abbrev pub IsStep : ℕ → Move → Type 0
IsStep n strike_left = Unit {0}
IsStep n strike_right = Unit {0}
IsStep n (put c) = c < n

-- what stands in front of bytes: a step's record, with the step and the bytes behind it, or none
pub data Front : Type 0 where
  no_record : Front
  front : Move → List ℕ → Front

-- "47 for one cut short, with another mark, a kind above 2 or a value that is no character"
abbrev pub with_value : ℕ → List ℕ → Front
with_value n [] = no_record
with_value n (c ∷ later) = cond (ltb c n) (front (put c) later) no_record

abbrev pub of_kind : ℕ → ℕ → List ℕ → Front
of_kind n k later =
    cond (eqb k 0) (front strike_left later)
    (cond (eqb k 1) (front strike_right later)
    (cond (eqb k 2) (with_value n later) no_record))

abbrev pub front_of : ℕ → List ℕ → Front
front_of n [] = no_record
front_of n (a ∷ []) = no_record
front_of n (a ∷ b ∷ []) = no_record
front_of n (a ∷ b ∷ k ∷ later) = cond (eqb a step_mark_1 && eqb b step_mark_2) (of_kind n k later) no_record
