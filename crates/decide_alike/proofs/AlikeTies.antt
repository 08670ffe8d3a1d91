-- The code's choice of characters is the definition's, of the struct of a question, wherever its patterns stand:
--   least_read : a character of the question is marked as a least one if it passes `is_least (hidden q)`
--   few_read   : and as one of the few if it passes `is_few (hidden q)`
-- Follows from `LeastRead` and `FewRead`, and from what the hidden fields are.
use Prim.Native.Nat.{ℕ, ◌<◌}
use mathlib.Core.Path.{◌≡◌, ap₂}
use mathlib.Core.Bool.{false}
use mathlib.Core.List.{List, ◌++◌}
use lib.ListN.{get_or}
use Rattle.paper.specs.Numbers.{most_characters}
use Rattle.paper.specs.Question.{Question, hidden}
use Rattle.paper.proofs.base.Tests.{le_leb}
use Rattle.paper_laws.proofs.sheets.Asked.{GoodSide}
use Rattle.paper_laws.proofs.sheets.Hidden.{Searchable}
use Rattle.paper_decide.specs.Alike.{is_least}
use Rattle.paper_decide.specs.Few.{is_few}
use Rattle.base_places.specs.Masks.{within}
use Rattle.base_question.specs.Asked.{question_of}
use Rattle.base_question.specs.declared.Body.{Body}
use Rattle.base_question.specs.declared.Question as Code
use Rattle.search_hidden.proofs.Codes.{left_hidden, right_hidden, part_hidden}
use Rattle.search_tables.specs.Tables as Tables
use Rattle.search_children.specs.Coding.{tables_of}
use Rattle.decide_alike.specs.AlikeCoded.{standing_coded, codes_in, taking_in, many_in, least_coded, few_coded}
use Rattle.decide_alike.specs.declared.LeastOnes.{LeastOnes}
use Rattle.decide_alike.proofs.LeastRead.{codes_of, taking_of}
use Rattle.decide_alike.proofs.FewRead.{marked_fixed, marked_least, least_marks, few_marks}

module _ (q : Question) (l : GoodSide q.alphabet.characters q.left) (r : GoodSide q.alphabet.characters q.right) (good : Searchable (hidden q))
    (bodies : List Body) where
  codes_are : codes_in (question_of q bodies) ≡ codes_of (hidden q)
  codes_are = ap₂ ◌++◌ (left_hidden q bodies good.most l) (right_hidden q bodies good.most r)

  taking_are : taking_in (question_of q bodies) ≡ taking_of (hidden q)
  unfolding tables_of
  taking_are = part_hidden q bodies Tables.taking_of

  many_are : many_in (question_of q bodies) ≡ q.alphabet.characters
  unfolding within
  many_are = rw (le_leb q.alphabet.characters most_characters good.most)

  ones_are : least_coded (question_of q bodies)
      ≡ record { fixed = marked_fixed (hidden q) good; standing = standing_coded (codes_of (hidden q)); least = marked_least (hidden q) good }
  unfolding least_coded
  ones_are = rw (many_are, codes_are, taking_are)

  module _ (s : Code.Question) (is : s ≡ question_of q bodies) (ones : LeastOnes) (o : ones ≡ least_coded s) where
    pub least_read : (c : ℕ) → c < q.alphabet.characters → get_or ones.least c false ≡ is_least (hidden q) c
    least_read = rw (o, is, ones_are) (least_marks (hidden q) good)

    pub few_read : (c : ℕ) → c < q.alphabet.characters → get_or (few_coded s ones) c false ≡ is_few (hidden q) c
    unfolding few_coded
    few_read = rw (o, is, ones_are, many_are, taking_are) (few_marks (hidden q) good)
