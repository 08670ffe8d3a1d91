-- What the search that writes its way ends with, for all sides, tables and buffers: the end, the count, the answer buffer and the third one. The
-- working buffer is all zero then.
use Rattle.std.specs.Prelude.{ℕ, zero, suc, ◌-◌, Ok, List, [], ◌++◌, length}
use Rattle.paper_steps.specs.StepsOutcome.{StepsOutcome}
use Rattle.base_codes.specs.Coded.{Coded}
use Rattle.base_steps.specs.StepsNumbered.{told_steps}
use Rattle.base_steps.specs.declared.StepsEnded.{StepsEnded}
use Rattle.base_steps.specs.declared.StepsHow.TheVariants.{NoClash, NoRoom, SideTooLong}
use Rattle.search_children.specs.Children.{Tables}
use Rattle.search_slots.specs.Slots.{Slot, slot_at}
use Rattle.search_records.specs.Records.{value_records}
use Rattle.search_steps.specs.WaySteps.{step_bytes, StepsTold, steps_told, steps_answered}
use Rattle.search_run.specs.Run.{Running, slot_search}
use Rattle.search_run.specs.Way.{text_at}
use Rattle.search_run.specs.declared.search.Status.{Status}
use Rattle.search_run.specs.declared.search.Status.TheVariants as Status-as

-- "the way found .. as records": from slot i back to slot 0, in at most so many steps
abbrev pub slots_steps : ℕ → List Slot → ℕ → List ℕ
slots_steps zero ss i = []
slots_steps (suc n) ss zero = []
slots_steps (suc n) ss (suc i) = slots_steps n ss (slot_at ss (suc i)).parent ++ step_bytes (slot_at ss (suc i)).step

abbrev pub steps_at : List Slot → ℕ → List ℕ
steps_at ss i = slots_steps i ss i

-- how it ends, and both buffers then, by how the search over slots stands
abbrev pub steps_by : Status → List Slot → List ℕ → List ℕ → List ℕ → StepsTold
steps_by Status-as.Found ss sets answer steps =
    steps_answered (value_records sets (text_at ss (length ss - 1))) (steps_at ss (length ss - 1)) answer steps
steps_by Status-as.UsedUp ss sets answer steps = steps_told NoClash answer steps
steps_by Status-as.NoRoom ss sets answer steps = steps_told NoRoom answer steps
steps_by Status-as.TooLong ss sets answer steps = steps_told SideTooLong answer steps
steps_by Status-as.Going ss sets answer steps = steps_told NoRoom answer steps

unfoldable pub steps_concluded : Running → List ℕ → List ℕ → List ℕ → StepsTold
steps_concluded R sets answer steps = steps_by R.status R.slots sets answer steps

-- the end with its count, and both buffers then
pub record StepsRun : Type 0 where
  pub ended : StepsEnded
  pub answer : List ℕ
  pub steps : List ℕ

abbrev pub steps_run : StepsEnded → List ℕ → List ℕ → StepsRun
steps_run ended answer steps = record { ended = ended; answer = answer; steps = steps }

-- a search that entered n situations
abbrev pub counted : ℕ → StepsTold → StepsRun
counted n t = steps_run (record { how = t.how; count = n }) t.answer t.steps

-- the search that begins with k
unfoldable pub steps_with : Tables → ℕ → Coded → List ℕ → List ℕ → StepsRun
steps_with T room k answer steps =
    let search = slot_search T room k in counted (length search.slots) (steps_concluded search k.sets answer steps)

-- the outcome that it tells, with the working buffer as it is afterwards
abbrev pub told_run : StepsRun → List ℕ → StepsOutcome
told_run r work = told_steps (Ok r.ended) r.answer work r.steps
