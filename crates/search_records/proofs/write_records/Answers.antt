-- `write_records` lends the answer buffer's rest to the record's writer, for each standing field. The loop's invariant: the records so far
-- stand in front, those of the fields left are missing, the rest is unchanged.
use Prim.Native.Nat.{◌+◌, ◌-◌, ◌≤◌}
use native.Mathlib.Omega.{arith}
use mathlib.Core.Path.{◌≡◌, refl, sym, ◌∙◌}
use lib.ListN.{length, get_or}
use borrow.Author.Rules.{rules}
use borrow.Rule.Slice.PartMut.{same_len_mid}
use Rattle.paper.specs.Numbers.{fields}
use Rattle.search_records.specs.Records.{way_spelt, record_bytes, value_records}
use Rattle.search_records.proofs.Records.{none_written, one_more, all_written, length_record, length_rest}
use Rattle.search_records.proofs.FieldsStanding.{records_from, records_all, records_here, length_here, records_passed, set_among}
use Rattle.search_records.proofs.write_records.Goals.{At-loop-f, then-set-ne0, else-set-ne0}
use Rattle.search_records.proofs.write_records.Goals as goal

pub loop-f-init : goal.loop-f-init
loop-f-init c =
    let args = c.args in (
      refl,
      none_written (value_records args.sets (way_spelt args.last.now.work.now args.last.now.number)) (records_from args.sets (way_spelt args.last.now.work.now args.last.now.number) 0) args.answer.now
          (records_all args.sets (way_spelt args.last.now.work.now args.last.now.number)),
    )

-- the place of the next record is in the buffer, and the record fits behind it
place : (c : At-loop-f) →
    let args = c.args in
    c.loop-f.at + length (records_from args.sets (way_spelt args.last.now.work.now args.last.now.number) c.loop-f.f) ≤ length c.loop-f.answer
place c =
    omega (arith, c.loop-f.invariant.0, c.loop-f.invariant.1.place, c.requires)

pub slice_bounds-write_record-count : goal.slice_bounds-write_record-count
slice_bounds-write_record-count c = omega (arith, place (goal.at.slice_bounds-write_record-count c).At-loop-f)

pub slice_bounds-write_record-start : goal.slice_bounds-write_record-start
slice_bounds-write_record-start c = omega (arith, place (goal.at.slice_bounds-write_record-start c).At-loop-f)

pub write_record-at-requires : goal.write_record-at-requires
write_record-at-requires c =
    let args = c.args in
    let stands = (λ (z : get_or args.sets c.loop-f.f 0 ≡ 0). c.if-set-ne0.true (set_among args.sets c.loop-f.f (omega arith) ∙ z)) in record {
      f_lt_fields = search rules;
      f_in_bounds = rw (length_rest c.loop-f.at c.loop-f.answer)
          (omega (arith, place (goal.at.write_record-at-requires c).At-loop-f, length_here args.sets (way_spelt args.last.now.work.now args.last.now.number) c.loop-f.f (omega arith) stands));
    }

pub overflow_add-at : goal.overflow_add-at
overflow_add-at c =
    let args = c.args in
    omega (
      arith,
      place (goal.at.overflow_add-at c).At-loop-f,
      c.write_record-at.ensures.many,
      length_record c.loop-f.f (way_spelt args.last.now.work.now args.last.now.number c.loop-f.f),
      length_here args.sets (way_spelt args.last.now.work.now args.last.now.number) c.loop-f.f (omega arith) (λ (z : get_or args.sets c.loop-f.f 0 ≡ 0). c.if-set-ne0.true (set_among args.sets c.loop-f.f (omega arith) ∙ z)),
    )

pub loop-f-preserved : goal.loop-f-preserved
loop-f-preserved c =
    let args = c.args in (
      elim c.if-set-ne0.branch [
        | then-set-ne0 w ↦ rw w.answer-is (same_len_mid c.loop-f.at (length c.loop-f.answer - c.loop-f.at) c.loop-f.answer w.write_record-at.new.out w.write_record-at.auto.out ∙ c.loop-f.invariant.0)
        | else-set-ne0 w ↦ rw w.answer-is c.loop-f.invariant.0
      ],
      let text = way_spelt args.last.now.work.now args.last.now.number in
          elim c.if-set-ne0.branch [
            | then-set-ne0 w ↦ rw (w.answer-is, w.at-is)
                (one_more (record_bytes c.loop-f.f (text c.loop-f.f)) (records_from args.sets text (c.loop-f.f + 1)) w.write_record-at.new.out w.write_record-at.result
                (rw (records_here args.sets text c.loop-f.f (omega arith) (λ (z : get_or args.sets c.loop-f.f 0 ≡ 0). w.if-set-ne0.true (set_among args.sets c.loop-f.f (omega arith) ∙ z))) at c.loop-f.invariant.1)
                (omega (arith, place (goal.at.loop-f-preserved c).At-loop-f)) w.write_record-at.ensures)
            | else-set-ne0 w ↦ rw (w.answer-is, w.at-is, ← records_passed args.sets text c.loop-f.f (omega arith) (sym (set_among args.sets c.loop-f.f (omega arith)) ∙ w.if-set-ne0.false)) c.loop-f.invariant.1
          ],
    )

pub returns : goal.returns
returns c =
    let z : c.loop-f.f ≡ fields = omega arith in
    all_written (rw z at c.loop-f.invariant.1)
