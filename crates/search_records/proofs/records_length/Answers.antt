-- `records_length` adds up the bytes of the records. The loop's invariant: those added and those of the fields left make the length.
-- A text is no longer than its way, and the buffer has 184 bytes for each slot of it, so a record has at most 2 ^ 57 bytes and the sum fits.
use Prim.Native.Nat.{◌≤◌}
use native.Mathlib.Omega.{arith}
use mathlib.Core.Path.{◌≡◌, sym, ap, ◌∙◌}
use lib.ListN.{length, get_or}
use Rattle.paper.specs.Numbers.{fields}
use Rattle.search_records.specs.Records.{way_spelt}
use Rattle.search_records.proofs.Text.{text_short}
use Rattle.search_records.proofs.FieldsStanding.{records_all, length_here, records_passed, set_among}
use Rattle.search_records.proofs.records_length.Goals.{In-loop-f, then-set-ne0, else-set-ne0}
use Rattle.search_records.proofs.records_length.Goals as goal

pub loop-f-init : goal.loop-f-init
loop-f-init c =
    let args = c.args in (
      omega arith,
      omega (arith, ap length (records_all args.sets (way_spelt args.last.now.work.now args.last.now.number))),
    )

-- a text is no longer than its way
short : (c : In-loop-f) →
    let args = c.args in
    length (way_spelt args.last.now.work.now args.last.now.number c.loop-f.f) ≤ args.last.now.number
short c =
    let args = c.args in
    text_short args.last.now.work.now c.loop-f.f args.last.now.number

pub overflow_add-total : goal.overflow_add-total
overflow_add-total c =
    omega (arith, short (goal.at.overflow_add-total c).In-loop-f, c.text_length.ensures, c.args.last.now.slot_in.room)

pub overflow_add-total-then-set-ne0 : goal.overflow_add-total-then-set-ne0
overflow_add-total-then-set-ne0 c =
    omega (arith, short (goal.at.overflow_add-total-then-set-ne0 c).In-loop-f, c.text_length.ensures, c.args.last.now.slot_in.room)

pub loop-f-preserved : goal.loop-f-preserved
loop-f-preserved c =
    let args = c.args in (
      elim c.if-set-ne0.branch [
        | then-set-ne0 w ↦ omega (arith, w.text_length.ensures, w.total-is, short (goal.at.loop-f-preserved c).In-loop-f, c.args.last.now.slot_in.room)
        | else-set-ne0 w ↦ omega (arith, w.total-is)
      ],
      elim c.if-set-ne0.branch [
        | then-set-ne0 w ↦ omega (arith, w.text_length.ensures, w.total-is, c.loop-f.invariant.1, length_here args.sets (way_spelt args.last.now.work.now args.last.now.number) c.loop-f.f (omega arith) (λ (z : get_or args.sets c.loop-f.f 0 ≡ 0). w.if-set-ne0.true (set_among args.sets c.loop-f.f (omega arith) ∙ z)))
        | else-set-ne0 w ↦ omega (arith, w.total-is, c.loop-f.invariant.1, ap length (records_passed args.sets (way_spelt args.last.now.work.now args.last.now.number) c.loop-f.f (omega arith) (sym (set_among args.sets c.loop-f.f (omega arith)) ∙ w.if-set-ne0.false)))
      ],
    )

pub returns : goal.returns
returns c =
    let z : c.loop-f.f ≡ fields = omega arith in
    omega (arith, rw z at c.loop-f.invariant.1)
