-- One step from a situation, by inner codes: the search's child by the step's move. `StepAgrees` ties it to the paper's step.
use Rattle.std.specs.Prelude.{ℕ, cond, List, ltb, eqb}
use Rattle.paper.specs.Numbers.{most_characters}
use Rattle.paper_steps.specs.Player.{Made, not_allowed, long_side, made}
use Rattle.base_codes.specs.Inner.{left_struck, right_struck, front}
use Rattle.base_codes.specs.Coded.{Coded}
use Rattle.search_fronts.specs.Fronts.{front_from}
use Rattle.search_children.specs.Children.{Tables, Settled, dropped, above, left_strike, right_strike, put_of}
use Rattle.search_children.specs.Children as Children
use Rattle.search_children.specs.Coding.{situation_code}

-- "a character": what putting c makes; a number that a table has no room for is never put
unfoldable pub put_step : List (List ℕ) → List (List ℕ) → Coded → ℕ → Settled
put_step follow taking s c =
    cond (ltb c most_characters)
    (put_of s (front_from follow taking s.sets (front s.left)) (front_from follow taking s.sets (front s.right)) c)
    dropped

-- "0 left front struck, 1 right front struck, 2 a character": it doesn't go by how many characters there are, since a record of a step was read by that
unfoldable pub step_coded : Tables → Coded → ℕ → Settled
step_coded T s step =
    cond (eqb step left_struck) (left_strike T.last s)
    (cond (eqb step right_struck) (right_strike T.last s) (put_step T.follow T.taking s step))

-- what making a step gives, by inner codes
abbrev pub settled_as : Made → Settled
settled_as not_allowed = dropped
settled_as long_side = above
settled_as (made t) = Children.made (situation_code t)
