-- The parts of a good sheet's script: the fields that are counted are those that stand, and the equation is that of its sides.
--   all_counted  : standing_fields of how often each field stands ≡ all_standing (hidden q)
--   equation_put : equation_spelt of the sides that were read ≡ equation e q.left q.right
-- Follows from the laws of good sheets and of inner codes.
use Prim.Native.Nat.{ℕ, ◌+◌}
use native.Mathlib.Omega.{arith}
use mathlib.Core.Path.{◌≡◌, sym, ap, ap₂, ◌∙◌, subst}
use mathlib.Core.Logic.{⊎_elim}
use mathlib.Core.Bool.{not}
use mathlib.Core.List.Memᴰ
use mathlib.Core.List.{List, ◌++◌, Memᴰ}
use lib.Dec.{eqb}
use Rattle.paper.specs.Lists.{upto}
use Rattle.paper.specs.Numbers.{hidden_left, hidden_right, set_fields}
use Rattle.paper.specs.Alphabet.{Alphabet, Edition, alphabet_of}
use Rattle.paper.specs.Equation.{Token, Side, stands_in}
use Rattle.paper.specs.Question.{Question, hidden}
use Rattle.paper.proofs.base.Lists.{mem_upto, map_append}
use Rattle.paper.proofs.base.Listed.{keep_same}
use Rattle.paper_laws.proofs.sheets.Asked.{InRange, GoodSide, GoodQuestion, good_most, sheet_good}
use Rattle.paper_laws.proofs.sheets.Hidden.{HasSet, hidden_searchable}
use Rattle.paper_script.specs.Script.{all_standing, equation}
use Rattle.base_codes.specs.Inner.{field_code, token_code, side_code, tokens, padded}
use Rattle.base_question.specs.Standings.{standing_times, is_counted}
use Rattle.base_question.proofs.HowOften.{standings_are, stands_times}
use Rattle.search_hidden.specs.Behind.{side_with}
use Rattle.base_question.proofs.SidesBack.{side_back}
use Rattle.search_hidden.proofs.Codes.{side_behind}
use Rattle.script_equation.specs.Arguments.{equation_spelt}
use Rattle.script_sheet.specs.WrittenOut.{AsksIn, fields_counted}
use Rattle.script_equation.proofs.Sides.{equation_alike}

module _ (e : Edition) (sheet : List ℕ) (q : Question) (asks : AsksIn e sheet q) where
  good : GoodQuestion q
  good = sheet_good sheet q asks.asks

  abbrev characters : ℕ
  characters = q.alphabet.characters

  -- the tokens of a good side are the edition's
  in_edition : (side : Side) → GoodSide characters side → (t : Token) → Memᴰ t side → InRange (alphabet_of e).characters t
  in_edition side g t d =
      subst (λ (a : Alphabet). InRange a.characters t) (good.alphabet ∙ ap alphabet_of (sym asks.its_edition)) (g.tokens t d)

  -- by the tokens of two sides that are those of the question with its hidden fields
  counted_alike : (left right : List ℕ) → tokens left ≡ side_code (hidden q).left → tokens right ≡ side_code (hidden q).right
      → fields_counted (standing_times left right) ≡ all_standing (hidden q)
  unfolding all_standing
  counted_alike left right l r =
      let can = hidden_searchable q good in
      let sides = (hidden q).left ++ (hidden q).right in
      let has-set : (t : Token) → Memᴰ t sides → HasSet t = λ t d. ⊎_elim (can.left t) (can.right t) (Memᴰ.append_cases (hidden q).left d) in
      let codes : tokens left ++ tokens right ≡ side_code sides = ap₂ ◌++◌ l r ∙ sym (map_append token_code (hidden q).left (hidden q).right) in
      keep_same (is_counted (standing_times left right)) (λ (f : ℕ). stands_in f sides) (upto set_fields)
      (λ f d. ap (λ (n : ℕ). not (eqb n 0)) (standings_are sides has-set left right codes f (mem_upto set_fields d)) ∙ stands_times f sides)

  module _ (left right : List ℕ) (l : left ≡ padded (side_code q.left)) (r : right ≡ padded (side_code q.right)) where
    pub all_counted : (all_left All-right counts : List ℕ)
        → all_left ≡ side_with (field_code + hidden_left) left → All-right ≡ side_with (field_code + hidden_right) right
        → counts ≡ standing_times all_left All-right → fields_counted counts ≡ all_standing (hidden q)
    all_counted all_left All-right counts a b c =
        let on_left : tokens all_left ≡ side_code (hidden q).left = rw (a, l) (side_behind characters (good_most good) q.left good.left hidden_left (omega arith)) in
        let on_right : tokens All-right ≡ side_code (hidden q).right = rw (b, r) (side_behind characters (good_most good) q.right good.right hidden_right (omega arith)) in
        ap fields_counted c ∙ counted_alike all_left All-right on_left on_right

    pub equation_put : equation_spelt e (tokens left) (tokens right) ≡ equation e q.left q.right
    equation_put =
        ap₂ (equation_spelt e) (ap tokens l ∙ side_back characters (good_most good) q.left good.left)
        (ap tokens r ∙ side_back characters (good_most good) q.right good.right)
        ∙ equation_alike e q.left q.right (in_edition q.left good.left) (in_edition q.right good.right)
