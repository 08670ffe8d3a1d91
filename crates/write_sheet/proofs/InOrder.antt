-- The records of a sheet one behind the other: the first fault is that of the whole, and without one the whole is laid out.
--   fields_stopped, left_stopped, right_stopped, stray_met : by the part that is refused
--   whole_laid                                             : where none is
-- Follows from the definition of what is laid out.
use Prim.Native.Nat.{ℕ}
use mathlib.Core.List.{List}
use lib.ListN.{length}
use Rattle.std.proofs.Common.{Ok, Err}
use Rattle.paper.specs.Alphabet.{Edition}
use Rattle.paper.specs.Sheet.{LE, RI}
use Rattle.paper.specs.Saying.{ToSay, edition_laid, edition_byte}
use Rattle.paper_write.specs.Laying.{Laying, fields_laid, then_side, both_sides, laying_in}
use Rattle.base_answers.specs.declared.Refusal.{Refusal}
use Rattle.write_records.specs.RecordPut.{Lays}
use Rattle.write_sheet.specs.SheetWritten.{StraysFound}
use Rattle.write_sheet.proofs.SheetPut.{side_stopped}
use Rattle.write_sheet.proofs.StraysChecked.{stray_refused, none_refused, stray_stopped}

module _ (ed : Edition) (t : ToSay) where
  abbrev front : List ℕ
  front = edition_laid (edition_byte ed)

  abbrev with_fields : Laying
  with_fields = fields_laid ed front 0 t.lengths t.patterns

  abbrev with_left : Laying
  with_left = then_side ed LE t.left with_fields

  abbrev with_right : Laying
  with_right = then_side ed RI t.right with_left

  module _ {d e f : List ℕ} (x : Refusal) where
    pub right_stopped : Lays d e 0 (Err x) with_right → Lays d f 0 (Err x) (laying_in ed t)
    unfolding laying_in
    right_stopped l = stray_stopped (both_sides ed t.left t.right) t.lengths (length front) x l

    pub left_stopped : Lays d e 0 (Err x) with_left → Lays d f 0 (Err x) (laying_in ed t)
    left_stopped l = right_stopped (side_stopped ed RI t.right {f = e} x l)

    pub fields_stopped : Lays d e 0 (Err x) with_fields → Lays d f 0 (Err x) (laying_in ed t)
    fields_stopped l = left_stopped (side_stopped ed LE t.left {f = e} x l)

    pub stray_met : (n : ℕ) → StraysFound (both_sides ed t.left t.right) t.lengths (length front) (Err x) → Lays d e 0 (Ok n) with_right
        → Lays d f 0 (Err x) (laying_in ed t)
    unfolding laying_in
    stray_met n h l = stray_refused (both_sides ed t.left t.right) t.lengths (length front) n x h l

  pub whole_laid : {d e : List ℕ} (n : ℕ) → StraysFound (both_sides ed t.left t.right) t.lengths (length front) (Ok tt) → Lays d e 0 (Ok n) with_right
      → Lays d e 0 (Ok n) (laying_in ed t)
  unfolding laying_in
  whole_laid n h l = none_refused (both_sides ed t.left t.right) t.lengths (length front) n h l
