-- `write_text` stores the characters that the steps of the way put before the field, the last one first. The loop's invariant: the text
-- at the present slot and what is stored already make the text; its length is the place. The slot's number falls.
use Prim.Native.Nat.{◌+◌, ◌-◌, ◌<◌}
use native.Mathlib.Omega.{arith}
use mathlib.Core.Path.{◌≡◌, ap, ◌∙◌}
use mathlib.Core.List.{append-nil}
use lib.ListN.{length-set}
use lib.Seq.{drop-length}
use Rattle.std.specs.Prelude.{is_some}
use borrow.Author.Rules.{rules}
use Rattle.search_records.specs.Records.{way_spelt, StepsBack}
use Rattle.search_records.proofs.Text.{length_put, text_kept, stored_before}
use Rattle.search_records.proofs.slot.Slot.write_text.Goals.{In-Some}
use Rattle.search_records.proofs.slot.Slot.write_text.Goals.{After-step_back-back}
use Rattle.search_records.proofs.slot.Slot.write_text.Goals as goal

pub loop-i-init : goal.loop-i-init
loop-i-init c = (
  search rules,
  search rules,
  search rules,
  c.requires.out_len,
  rw (drop-length c.args.out.now) (append-nil (way_spelt c.args.self.now.work.now c.args.self.now.number c.args.f)),
)

-- the step back from the present slot
back-at : (c : After-step_back-back) → StepsBack c.args.self.now.work.now c.loop-i.i c.args.f c.step_back-back.result
back-at c =
    let same : c.earlier.result.number ≡ c.loop-i.i = omega (arith, c.earlier.ensures.1) in
    rw (c.earlier.ensures.0, same) at c.step_back-back.ensures

-- a character that was put has a place
place : (c : In-Some) → 0 < c.loop-i.at
place c =
    let same : c.earlier.result.number ≡ c.loop-i.i = omega (arith, c.earlier.ensures.1) in
    omega (arith, c.loop-i.invariant.3, length_put (rw (c.earlier.ensures.0, same) at c.step_back-back.ensures) (ap is_some c.in-Some.is))

pub overflow_sub-at : goal.overflow_sub-at
overflow_sub-at c = omega (arith, place (goal.at.overflow_sub-at c).In-Some)

pub bounds-out-at : goal.bounds-out-at
bounds-out-at c = omega (arith, place (goal.at.bounds-out-at c).In-Some)

pub loop-i-smaller-in-Some : goal.loop-i-smaller-in-Some
loop-i-smaller-in-Some c = (back-at (goal.at.loop-i-smaller-in-Some c).After-step_back-back).falls

pub loop-i-preserved-in-Some : goal.loop-i-preserved-in-Some
loop-i-preserved-in-Some c =
    let k = place (goal.at.loop-i-preserved-in-Some c).In-Some in
    let back = (back-at (goal.at.loop-i-preserved-in-Some c).After-step_back-back) in
    let p = back.falls in
    let n : c.loop-i.at - 1 + 1 ≡ c.loop-i.at = omega arith in (
      omega (arith, c.loop-i.invariant.0),
      simp length-set c.loop-i.invariant.1,
      simp length-set (omega (arith, c.loop-i.invariant.2)),
      omega (arith, c.loop-i.invariant.3, length_put back (ap is_some c.in-Some.is)),
      stored_before back c.loop-i.out (c.loop-i.at - 1) c.in-Some.character c.in-Some.is (omega (arith, c.loop-i.invariant.2)) ∙ rw n c.loop-i.invariant.4,
    )

pub loop-i-smaller : goal.loop-i-smaller
loop-i-smaller c = (back-at (goal.at.loop-i-smaller c).After-step_back-back).falls

pub loop-i-preserved : goal.loop-i-preserved
loop-i-preserved c =
    let back = (back-at (goal.at.loop-i-preserved c).After-step_back-back) in
    let p = back.falls in (
      omega (arith, c.loop-i.invariant.0),
      c.loop-i.invariant.1,
      c.loop-i.invariant.2,
      rw (← text_kept back (ap is_some c.in_default.is)) c.loop-i.invariant.3,
      rw (← text_kept back (ap is_some c.in_default.is)) c.loop-i.invariant.4,
    )

pub returns : goal.returns
returns c =
    let z : c.loop-i.i ≡ 0 = omega arith in
    let e : c.loop-i.at ≡ 0 = rw z at c.loop-i.invariant.3 in
    rw (z, e) at c.loop-i.invariant.4
