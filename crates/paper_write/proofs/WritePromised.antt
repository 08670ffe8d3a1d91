-- What is promised of writing a sheet: of everything given and every buffer.
--   write_promised : WritePromised t out (writing t out)
--   laid_fits      : read_sheet (sheet_laid t) ≡ asked q → length (sheet_laid t) ≤ longest_sheet
-- Follows from `LaidRead`, and from how long the sheet is that says a question (`Lengths` of `paper_carry`).
use Prim.Native.Nat.{ℕ, ◌≤◌}
use native.Mathlib.Omega.{arith}
use mathlib.Core.Path.{◌≡◌, refl, sym, ap, ◌∙◌, subst}
use mathlib.Core.List.{List}
use lib.Dec.{ltb}
use lib.ListN.{length, take, drop}
use lib.Seq.{take-append_seam, drop-append_seam}
use Rattle.paper.specs.Question.{Question}
use Rattle.paper.specs.Sheet.{Fault, fault_number, Reading, refused, asked, read_sheet}
use Rattle.paper.proofs.base.Tests.{cond_by, ltb_true}
use Rattle.paper_laws.proofs.sheets.LastChecked.{asked_before}
use Rattle.paper_laws.proofs.saying.Sayable.{sheet_sayable}
use Rattle.paper_carry.specs.Spelling.{longest_sheet}
use Rattle.paper_carry.proofs.SaidBack.{said_back}
use Rattle.paper_carry.proofs.Lengths.{sheet_length}
use Rattle.paper_carry.proofs.CarryPromised.{fault_between, fault_not_short}
use Rattle.paper.specs.Saying.{ToSay, sheet_laid}
use Rattle.paper_write.specs.Laying.{Laying, at_fault, laid_out, laying}
use Rattle.paper_write.specs.Writing.{writing_of, writing, Says, WritePromised}
use Rattle.paper_write.proofs.LaidRead.{Whole, laying_reads}

-- the number and the place of a fault
abbrev number_of : Reading → ℕ
number_of (refused x at) = fault_number x
number_of (asked q) = 0

abbrev place_of : Reading → ℕ
place_of (refused x at) = at
place_of (asked q) = 0

module _ (t : ToSay) where
  no_fault : (x : Fault) (at : ℕ) (q : Question) → refused x at ≡ asked q → ⊥
  no_fault x at q e = let (low, high) = fault_between x in let none = ap number_of e in omega arith

  -- what can be read says what was given
  pub laid_says : (q : Question) → read_sheet (sheet_laid t) ≡ asked q → Says t (sheet_laid t)
  laid_says q e = by_laying (laying t) (laying_reads t)
    where
      by_laying : (w : Laying) → Whole t w → Says t (sheet_laid t)
      by_laying (at_fault x at) h = absurd (no_fault x at q (sym h ∙ e))
      by_laying (laid_out bytes) h = h.1

  pub laid_fits : (q : Question) → read_sheet (sheet_laid t) ≡ asked q → length (sheet_laid t) ≤ longest_sheet
  laid_fits q e =
      let same = ap length (said_back (sheet_laid t) q (asked_before (sheet_laid t) q e)) in omega (arith, same, sheet_length q (sheet_sayable (sheet_laid t) q e))

  module _ (out : List ℕ) where
    by_reading : (r : Reading) → read_sheet (sheet_laid t) ≡ r → WritePromised t out (writing_of r (sheet_laid t) out)
    by_reading (refused x at) e =
        let (low, high) = fault_between x in
        record {
          says = λ (z : fault_number x ≡ 0). absurd (omega arith);
          behind = refl;
          refuses = λ y place h. (ap number_of (sym e ∙ h), ap place_of (sym e ∙ h));
          unchanged = λ _. refl;
          enough = λ _ z. fault_not_short x z;
        }
    by_reading (asked q) e =
        let bytes = sheet_laid t in
        cond_by (WritePromised t out) (ltb (length out) (length bytes))
        (λ h. record {
          says = λ (z : 41 ≡ 0). absurd (omega arith);
          behind = refl;
          refuses = λ y place k. absurd (no_fault y place q (sym k ∙ e));
          unchanged = λ _. refl;
          enough = λ room _. omega (arith, laid_fits q e, ltb_true (length out) (length bytes) h);
        })
        (λ _. record {
          says = λ _. subst (Says t) (sym (take-append_seam bytes (drop (length bytes) out))) (laid_says q e);
          behind = drop-append_seam bytes (drop (length bytes) out);
          refuses = λ y place k. absurd (no_fault y place q (sym k ∙ e));
          unchanged = λ n. absurd (n refl);
          enough = λ _ (z : 0 ≡ 41). omega arith;
        })

    pub write_promised : WritePromised t out (writing t out)
    unfolding writing
    write_promised = by_reading (read_sheet (sheet_laid t)) refl
