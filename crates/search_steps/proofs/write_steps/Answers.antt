-- `write_steps` stores the records of the way, the last one first. The loop's invariant: the records of the way to the present slot and what is stored
-- already make the whole; their length is the place. The slot's number falls.
use Prim.Native.Nat.{◌+◌, ◌-◌, ◌≤◌}
use native.Mathlib.Omega.{arith}
use mathlib.Core.Path.{◌≡◌, refl, ◌∙◌}
use mathlib.Core.List.{append-nil}
use lib.ListN.{drop, length-drop}
use lib.Seq.{drop-length, length-take-le}
use borrow.Rule.Slice.PartMut.{same_len_mid}
use Rattle.search_steps.specs.WaySteps.{way_steps, StepsBefore}
use Rattle.search_steps.proofs.Steps.{length_grown, stored_before}
use Rattle.search_steps.proofs.write_steps.Goals.{After-record_length, After-step_before-before}
use Rattle.search_steps.proofs.write_steps.Goals as goal

pub loop-i-init : goal.loop-i-init
loop-i-init c = (
  omega arith,
  refl,
  omega arith,
  c.requires,
  rw (drop-length c.args.out.now) (append-nil (way_steps c.args.last.now.work.now c.args.last.now.number)),
)

pub step_before-before-requires : goal.step_before-before-requires
step_before-before-requires c = omega (arith, c.earlier.ensures.1, c.loop-i-test.true)

-- the step back from the present slot
back-at : (c : After-step_before-before) → StepsBefore c.args.last.now.work.now c.loop-i.i c.step_before-before.result
back-at c =
    let same : c.earlier.result.number ≡ c.loop-i.i = omega (arith, c.earlier.ensures.1) in
    rw (c.earlier.ensures.0, same) at c.step_before-before.ensures

-- the record has its place before the end
place : (c : After-record_length) → c.record_length.result ≤ c.loop-i.end
place c =
    let same : c.earlier.result.number ≡ c.loop-i.i = omega (arith, c.earlier.ensures.1) in
    omega (arith, c.loop-i.invariant.3, c.record_length.ensures, length_grown (rw (c.earlier.ensures.0, same) at c.step_before-before.ensures))

pub overflow_sub-at : goal.overflow_sub-at
overflow_sub-at c = omega (arith, place (goal.at.overflow_sub-at c).After-record_length)

pub slice_bounds-write_step-count : goal.slice_bounds-write_step-count
slice_bounds-write_step-count c = omega (arith, place (goal.at.slice_bounds-write_step-count c).After-record_length)

pub slice_bounds-write_step-start : goal.slice_bounds-write_step-start
slice_bounds-write_step-start c = omega (arith, place (goal.at.slice_bounds-write_step-start c).After-record_length)

pub slice_bounds-write_step-end : goal.slice_bounds-write_step-end
slice_bounds-write_step-end c = omega (arith, place (goal.at.slice_bounds-write_step-end c).After-record_length, c.loop-i.invariant.2)

pub write_step-requires : goal.write_step-requires
write_step-requires c =
    let from = c.loop-i.end - c.record_length.result in
    length-take-le (c.loop-i.end - from) (drop from c.loop-i.out) (rw length-drop (omega (arith, place (goal.at.write_step-requires c).After-record_length, c.loop-i.invariant.2)))
    ∙ omega (arith, place (goal.at.write_step-requires c).After-record_length, c.record_length.ensures)

pub loop-i-smaller : goal.loop-i-smaller
loop-i-smaller c = (back-at (goal.at.loop-i-smaller c).After-step_before-before).falls

pub loop-i-preserved : goal.loop-i-preserved
loop-i-preserved c =
    let back = c.step_before-before in
    let from = c.loop-i.end - c.record_length.result in
    let n = c.loop-i.end - from in
    let same = same_len_mid from n c.loop-i.out c.write_step.new.out c.write_step.auto.out in
    let z : from + n ≡ c.loop-i.end = omega (arith, place (goal.at.loop-i-preserved c).After-record_length) in (
      omega (arith, c.loop-i.invariant.0, (back-at (goal.at.loop-i-preserved c).After-step_before-before).falls),
      same ∙ c.loop-i.invariant.1,
      rw same (omega (arith, c.loop-i.invariant.2)),
      omega (arith, c.loop-i.invariant.3, place (goal.at.loop-i-preserved c).After-record_length, c.record_length.ensures, length_grown (back-at (goal.at.loop-i-preserved c).After-step_before-before)),
      stored_before (back-at (goal.at.loop-i-preserved c).After-step_before-before) c.loop-i.out c.write_step.new.out from n c.write_step.ensures (omega (arith, c.loop-i.invariant.2, z)) ∙ rw z c.loop-i.invariant.4,
    )

pub returns : goal.returns
returns c =
    let z : c.loop-i.i ≡ 0 = omega (arith, c.loop-i-test.false) in
    let e : c.loop-i.end ≡ 0 = rw z at c.loop-i.invariant.3 in
    rw (z, e) at c.loop-i.invariant.4
