-- What `of` promises of an end with its way: the search is over, and what is concluded is the end. Follows from the laws of `Ending` and
-- `StepsConcluding`.
use Rattle.search_run.proofs.Ending.{over}
use Rattle.search_run.proofs.StepsConcluding.{ended_with_steps}
use Rattle.search_run.proofs.told.StepsEndedTold.of.Goals as goal

pub conclude_steps-how-requires : goal.conclude_steps-how-requires
conclude_steps-how-requires c =
    let r = c.requires in over r.0 r.1 r.2 r.3.over

pub returns : goal.returns
returns c T room k s =
    let o = over T room k s.over in
    ended_with_steps T room k _ c.args.answer.now c.args.steps.now _ s.sets_are (c.conclude_steps-how.ensures o) o.lent.entered
