-- `steps_length` adds up the bytes of the records. The loop's invariant: those added and those of the way to the present slot make the length. The
-- slot's number falls, and a record has at most four bytes, so the sum fits.
use native.Mathlib.Omega.{arith}
use mathlib.Core.Path.{◌≡◌}
use Rattle.search_steps.proofs.Steps.{record_short, length_grown}
use Rattle.search_steps.specs.WaySteps.{StepsBefore}
use Rattle.search_steps.proofs.steps_length.Goals.{After-step_before-before}
use Rattle.search_steps.proofs.steps_length.Goals as goal

pub loop-i-init : goal.loop-i-init
loop-i-init c = (omega arith, omega arith)

pub step_before-before-requires : goal.step_before-before-requires
step_before-before-requires c = omega (arith, c.earlier.ensures.1, c.loop-i-test.true)

-- the step back from the present slot
back-at : (c : After-step_before-before) → StepsBefore c.args.last.now.work.now c.loop-i.i c.step_before-before.result
back-at c =
    let same : c.earlier.result.number ≡ c.loop-i.i = omega (arith, c.earlier.ensures.1) in
    rw (c.earlier.ensures.0, same) at c.step_before-before.ensures

pub overflow_add-n : goal.overflow_add-n
overflow_add-n c =
    omega (arith, c.loop-i.invariant.0, c.loop-i-test.true, c.record_length-n.ensures, record_short c.step_before-before.result.step, c.args.last.now.slot_in.room)

pub loop-i-smaller : goal.loop-i-smaller
loop-i-smaller c = (back-at (goal.at.loop-i-smaller c).After-step_before-before).falls

pub loop-i-preserved : goal.loop-i-preserved
loop-i-preserved c =
    let back = c.step_before-before in
    let e = c.record_length-n.ensures in (
      omega (arith, c.loop-i.invariant.0, (back-at (goal.at.loop-i-preserved c).After-step_before-before).falls, e, record_short back.result.step),
      omega (arith, c.loop-i.invariant.1, e, length_grown (back-at (goal.at.loop-i-preserved c).After-step_before-before)),
    )

pub returns : goal.returns
returns c =
    let z : c.loop-i.i ≡ 0 = omega (arith, c.loop-i-test.false) in
    omega (arith, rw z at c.loop-i.invariant.1)
