-- Playing by inner codes, record by record: where it ends, and what the steps put before a field. As the paper's (`Player.play_from`), from a
-- situation by inner codes. `WalkAgrees` ties it to the paper.
use Rattle.std.specs.Prelude.{ℕ, zero, suc, cond, Result, Ok, Err, List, [], ◌∷◌, ◌++◌}
use Rattle.paper_steps.specs.StepRecords.{Front, no_record, front, front_of}
use Rattle.paper_steps.specs.Player.{most_steps}
use Rattle.base_codes.specs.Inner.{move_code}
use Rattle.base_codes.specs.Coded.{Coded, finished_coded}
use Rattle.search_children.specs.Children.{Tables, Settled, dropped, above, made, given_coded}
use Rattle.base_codes.specs.declared.Situation.{Situation}
use Rattle.search_children.specs.declared.Child.{Child}
use Rattle.search_children.specs.declared.Child.TheVariants.{Dropped, Above, Made}
use Rattle.play_step.specs.StepCoded.{step_coded}
use Rattle.play_walk.specs.declared.Stop.{Stop}
use Rattle.play_walk.specs.declared.Stop.TheVariants.{PastMost, NoRecord, NotAllowed, SideTooLong, Unfinished}

-- the number of a refusal
abbrev pub stop_number : Stop → ℕ
stop_number PastMost = 50
stop_number NoRecord = 47
stop_number NotAllowed = 48
stop_number SideTooLong = 19
stop_number Unfinished = 49

-- how playing ends: it arrives, or stops
abbrev pub Ending : Type 0
Ending = Result (Unit {0}) Stop

-- the situation that a step makes
abbrev pub made_of : Child → Result Situation Stop
made_of Dropped = Err NotAllowed
made_of Above = Err SideTooLong
made_of (Made s) = Ok s

-- "49 where the records end before the finish"
unfoldable pub ended_coded : Coded → Ending
ended_coded s = cond (finished_coded s) (Ok tt) (Err Unfinished)

-- "48 for a step not allowed, 19 for a long side"; a step that was made goes on
abbrev pub walk_on : (Coded → Ending) → Settled → Ending
walk_on go_on dropped = Err NotAllowed
walk_on go_on above = Err SideTooLong
walk_on go_on (made t) = go_on t

abbrev pub text_on : List ℕ → (Coded → List ℕ) → Settled → List ℕ
text_on given go_on dropped = []
text_on given go_on above = []
text_on given go_on (made t) = given ++ go_on t

module _ (T : Tables) where
  -- "47 for one cut short .."; a value is a character's by how many of them there are
  abbrev pub walk_front : (Coded → List ℕ → Ending) → Coded → Front → Ending
  walk_front go_on s no_record = Err NoRecord
  walk_front go_on s (front m later) = walk_on (λ (t : Coded). go_on t later) (step_coded T s (move_code m))

  -- so many records may still come
  abbrev pub walk_from : ℕ → Coded → List ℕ → Ending
  walk_from zero s [] = ended_coded s
  walk_from zero s (b ∷ bytes) = Err PastMost
  walk_from (suc left) s [] = ended_coded s
  walk_from (suc left) s (b ∷ bytes) = walk_front (λ (t : Coded) (later : List ℕ). walk_from left t later) s (front_of T.characters (b ∷ bytes))

  unfoldable pub walked : Coded → List ℕ → Ending
  walked s bytes = walk_from most_steps s bytes

  -- the characters put before the field f, as far as the steps can be made
  module _ (f : ℕ) where
    abbrev pub text_front : (Coded → List ℕ → List ℕ) → Coded → Front → List ℕ
    text_front go_on s no_record = []
    text_front go_on s (front m later) = text_on (given_coded f s (move_code m)) (λ (t : Coded). go_on t later) (step_coded T s (move_code m))

    abbrev pub text_from : ℕ → Coded → List ℕ → List ℕ
    text_from zero s bytes = []
    text_from (suc left) s bytes = text_front (λ (t : Coded) (later : List ℕ). text_from left t later) s (front_of T.characters bytes)

    unfoldable pub text_walked : Coded → List ℕ → List ℕ
    text_walked s bytes = text_from most_steps s bytes
