-- `text_length` counts the characters that the steps of the way put before the field. The loop's invariant: those counted and the
-- length of the text at the present slot make the length. The slot's number falls.
use native.Mathlib.Omega.{arith}
use mathlib.Core.Path.{◌≡◌, sym, ap, ◌∙◌}
use lib.ListN.{length}
use Rattle.search_records.specs.Records.{StepsBack}
use Rattle.search_records.proofs.Text.{length_put, text_kept}
use Rattle.search_records.proofs.slot.Slot.text_length.Goals.{After-step_back-back}
use Rattle.search_records.proofs.slot.Slot.text_length.Goals as goal

pub loop-i-init : goal.loop-i-init
loop-i-init c = (omega arith, omega arith)

-- the step back from the present slot
back-at : (c : After-step_back-back) → StepsBack c.args.self.now.work.now c.loop-i.i c.args.f c.step_back-back.result
back-at c =
    let same : c.earlier.result.number ≡ c.loop-i.i = omega (arith, c.earlier.ensures.1) in
    rw (c.earlier.ensures.0, same) at c.step_back-back.ensures

pub overflow_add-n : goal.overflow_add-n
overflow_add-n c = omega arith

pub loop-i-smaller-then-is_some : goal.loop-i-smaller-then-is_some
loop-i-smaller-then-is_some c = (back-at (goal.at.loop-i-smaller-then-is_some c).After-step_back-back).falls

pub loop-i-preserved-then-is_some : goal.loop-i-preserved-then-is_some
loop-i-preserved-then-is_some c =
    let back = (back-at (goal.at.loop-i-preserved-then-is_some c).After-step_back-back) in
    let p = back.falls in
    (omega arith, omega (arith, c.loop-i.invariant.1, length_put back (sym c.is_some.ensures ∙ c.if-is_some.true)))

pub loop-i-smaller : goal.loop-i-smaller
loop-i-smaller c = (back-at (goal.at.loop-i-smaller c).After-step_back-back).falls

pub loop-i-preserved : goal.loop-i-preserved
loop-i-preserved c =
    let back = (back-at (goal.at.loop-i-preserved c).After-step_back-back) in
    let p = back.falls in
    (omega arith, omega (arith, c.loop-i.invariant.1, ap length (text_kept back (sym c.is_some.ensures ∙ c.if-is_some.false))))

pub returns : goal.returns
returns c =
    let z : c.loop-i.i ≡ 0 = omega arith in
    omega (arith, rw z at c.loop-i.invariant.1)
