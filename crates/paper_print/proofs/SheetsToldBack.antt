-- What is printed of the texts that solve a sheet tells them back.
--   solved_told_back : for every field that stands in the sides
-- Follows from `LinesToldBack`, `SheetEdition`, and from the texts of a solution being of the question's characters.
use Prim.Native.Nat.{ℕ}
use mathlib.Core.Path.{◌≡◌, subst}
use mathlib.Core.Bool.{true}
use mathlib.Core.List.{List, ◌++◌}
use lib.Dec.{ltb}
use Rattle.paper.specs.Alphabet.{Alphabet, Edition, alphabet_of}
use Rattle.paper.specs.Equation.{stands_in, Over}
use Rattle.paper.specs.Sheet.{read_sheet}
use Rattle.paper.specs.Demands.{Solved, texts_found}
use Rattle.paper.proofs.base.Tests.{lt_ltb}
use Rattle.paper.proofs.base.Lists.{every_all}
use Rattle.paper_spell.specs.FullAscii.{text}
use Rattle.paper_print.specs.TextLines.{sheet_edition, text_line}
use Rattle.paper_print.specs.ToldBack.{is_text_in, told_back}
use Rattle.paper_print.proofs.LinesToldBack.{line_told_back}
use Rattle.paper_print.proofs.SheetEdition.{question_edition}

over_is_text : (e : Edition) (t : List ℕ) → Over (alphabet_of e).characters t → is_text_in e t ≡ true
over_is_text e t o =
    every_all (λ (c : ℕ). ltb c (alphabet_of e).characters) t (λ c m. lt_ltb c (alphabet_of e).characters (o c m))

module _ (s work : List ℕ) (x : Solved (read_sheet s) work) (f : ℕ) where
  pub solved_told_back : stands_in f (x.question.left ++ x.question.right) ≡ true
      → told_back (sheet_edition s) (text_line (sheet_edition s) f (texts_found x f)) ≡ text (texts_found x f)
  solved_told_back there =
      let over = subst (λ (a : Alphabet). Over a.characters (texts_found x f)) (question_edition s x.question x.good) (x.solution.over f there) in
      line_told_back (sheet_edition s) f (texts_found x f) (over_is_text (sheet_edition s) (texts_found x f) over)
