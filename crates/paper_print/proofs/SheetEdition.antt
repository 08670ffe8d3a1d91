-- The edition by which a sheet's texts are printed is that of its question.
--   question_edition : read_sheet s ≡ asked q → q.alphabet ≡ alphabet_of (sheet_edition s)
-- Follows from the definition of reading, check by check: the check on strays asks no other question.
use Prim.Native.Nat.{ℕ, suc}
use mathlib.Core.Path.{◌≡◌, refl, subst}
use mathlib.Core.List.{List}
use lib.Dec.{ltb}
use lib.ListN.{length}
use Rattle.paper.specs.Alphabet.{Edition, alphabet_of}
use Rattle.paper.specs.Equation.{Side}
use Rattle.paper.specs.Question.{Question}
use Rattle.paper.specs.Sheet.{LE, RI, Checked, fault, read, Records, faulty, records, Fields, open_fields, Reading, refused, asked, marked_side, read_patterns, no_check, read_end, right_read, left_read, sides_read, edition_front, edition_read, read_by, read_sheet}
use Rattle.paper.proofs.base.Tests.{cond_by}
use Rattle.paper_laws.proofs.sheets.LastChecked.{asked_before}
use Rattle.paper_print.specs.TextLines.{edition_told, sheet_edition}

abbrev AsksIn : Edition → Reading → Type 0
AsksIn e (refused x at) = Unit {0}
AsksIn e (asked q) = q.alphabet ≡ alphabet_of e

module _ (e : Edition) (s : List ℕ) where
  right_in : (fs : Fields) (l : Side) (x : Checked Side) → AsksIn e (right_read no_check e s fs l x)
  unfolding read_end
  right_in fs l (fault x at) = tt
  right_in fs l (read r next) = cond_by (AsksIn e) (ltb next (length s)) (λ _. tt) (λ _. refl)

  left_in : (fs : Fields) (x : Checked Side) → AsksIn e (left_read no_check e s fs x)
  left_in fs (fault x at) = tt
  left_in fs (read l next) = right_in fs l (marked_side e RI s next)

  sides_in : (x : Records Fields) → AsksIn e (sides_read no_check e s x)
  sides_in (faulty x at) = tt
  sides_in (records fs at) = left_in fs (marked_side e LE s at)

edition_in : (s : List ℕ) (x : Checked Edition) → AsksIn (edition_told x) (edition_read no_check s x)
edition_in s (fault x at) = tt
edition_in s (read e at) = sides_in e s (read_patterns e (suc (length s)) s at open_fields)

pub question_edition : (s : List ℕ) (q : Question) → read_sheet s ≡ asked q → q.alphabet ≡ alphabet_of (sheet_edition s)
unfolding read_by sheet_edition
question_edition s q e = subst (AsksIn (sheet_edition s)) (asked_before s q e) (edition_in s (edition_front s))
