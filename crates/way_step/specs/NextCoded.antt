-- The step that texts want, by inner codes, and how many characters are left behind it. The texts stand in the bytes of their records (`Spans` of
-- way_records); x is the space.
use Rattle.std.specs.Prelude.{ℕ, ◌-◌, Bool, cond, not, ◌&&◌, List, ltb, eqb, get_or, set}
use Rattle.paper.specs.Numbers.{most_characters, fields, set_fields}
use Rattle.paper_way.specs.TextSteps.{no_character}
use Rattle.base_codes.specs.Inner.{left_struck, right_struck, is_char, is_field_code, field_of, front}
use Rattle.base_codes.specs.Coded.{Coded}

-- the token is a field's whose text is used up
abbrev pub used_coded : List ℕ → ℕ → Bool
used_coded left b = is_field_code b && eqb (get_or left (field_of b) 0) 0

-- no step: the code of none that can be made
abbrev pub no_step_code : ℕ
no_step_code = most_characters

-- put c, which is next on the one side, where it is a character and d, which is next on the other, is the same
abbrev pub put_code : ℕ → ℕ → ℕ → ℕ
put_code n c d =
    cond (not (eqb c d)) no_step_code (cond (not (ltb c n)) no_step_code (cond (not (ltb c most_characters)) no_step_code c))

module _ (x : ℕ) (bytes ends left : List ℕ) where
  -- "the next character" of a side with this token in front
  abbrev pub character_coded : ℕ → ℕ
  character_coded b =
      cond (is_char b) b
      (cond (ltb (field_of b) fields) (get_or bytes (get_or ends (field_of b) 0 - get_or left (field_of b) 0) no_character)
      (cond (ltb (field_of b) set_fields) x no_character))

  -- "strike a front field whose text is used up, the left one first; otherwise put the next character", where there are n characters
  unfoldable pub next_code : ℕ → Coded → ℕ
  next_code n s =
      cond (used_coded left (front s.left)) left_struck
      (cond (used_coded left (front s.right)) right_struck
      (put_code n (character_coded (front s.left)) (character_coded (front s.right))))

-- one character less of the field with this token
abbrev pub less_one : List ℕ → ℕ → List ℕ
less_one left b = cond (is_field_code b) (set left (field_of b) (get_or left (field_of b) 0 - 1)) left

-- what is left behind a step: a character that was put is one of each front field's
unfoldable pub left_behind : List ℕ → Coded → ℕ → List ℕ
left_behind left s step =
    cond (ltb step most_characters)
    (cond (eqb (front s.right) (front s.left)) (less_one left (front s.left))
    (less_one (less_one left (front s.left)) (front s.right)))
    left
