-- `conclude_steps` meets its contract: each arm names how it ends for the search's end. Follows from the laws of `StepsConcluding`.
use native.Mathlib.Omega.{arith}
use mathlib.Core.Path.{refl}
use Rattle.search_run.specs.declared.search.Status.TheVariants as Status
use Rattle.search_run.proofs.Concluding.{some_entered, way_there}
use Rattle.search_run.proofs.WaySpelt.{slot_there}
use Rattle.search_run.proofs.StepsConcluding.{steps_concluded_by, found_with_steps}
use Rattle.search_run.proofs.conclude_steps.Goals as goal

pub overflow_sub-over : goal.overflow_sub-over
overflow_sub-over c =
    omega (arith, some_entered c.requires c.in-Found.is)

pub returns-in-Found : goal.returns-in-Found
returns-in-Found c o =
    let args = c.args in
    let e = c.in-Found.is in
    found_with_steps o args.over.sets args.answer.now args.steps.now e (c.answer_steps.ensures (slot_there (way_there o e)))

pub returns-in-UsedUp : goal.returns-in-UsedUp
returns-in-UsedUp c o =
    let args = c.args in
    steps_concluded_by o args.over.sets args.answer.now args.steps.now Status.UsedUp c.in-UsedUp.is refl

pub returns-in-NoRoom : goal.returns-in-NoRoom
returns-in-NoRoom c o =
    let args = c.args in
    steps_concluded_by o args.over.sets args.answer.now args.steps.now Status.NoRoom c.in-NoRoom.is refl

pub returns-in-TooLong : goal.returns-in-TooLong
returns-in-TooLong c o =
    let args = c.args in
    steps_concluded_by o args.over.sets args.answer.now args.steps.now Status.TooLong c.in-TooLong.is refl

pub returns-in-Going : goal.returns-in-Going
returns-in-Going c o =
    let args = c.args in
    steps_concluded_by o args.over.sets args.answer.now args.steps.now Status.Going c.in-Going.is refl
