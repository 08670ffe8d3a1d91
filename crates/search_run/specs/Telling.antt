-- What is told of a search, without its way or with it: for any tables, room, first situation and buffers, and the buffers afterwards.
use Rattle.std.specs.Prelude.{ℕ, ◌≡◌, List}
use Rattle.base_answers.specs.declared.Ended.{Ended}
use Rattle.base_steps.specs.declared.StepsEnded.{StepsEnded}
use Rattle.base_codes.specs.Coded.{Coded}
use Rattle.search_children.specs.Children.{Tables}
use Rattle.search_run.specs.Ended.{ended_with, buffer_with}
use Rattle.search_run.specs.StepsEnded.{steps_run, steps_with}

abbrev pub Telling : Type 0 → Type 1
Telling A = Tables → ℕ → Coded → (answer steps after written : List ℕ) → A → Type 0

abbrev pub TellsEnd : Telling Ended
TellsEnd T room k answer steps after written r =
    (r ≡ ended_with T room k answer) × (after ≡ buffer_with T room k answer) × (written ≡ steps)

abbrev pub TellsWay : Telling StepsEnded
TellsWay T room k answer steps after written r = steps_run r after written ≡ steps_with T room k answer steps
