-- What is searched is the question with its hidden fields:
--   side_behind   : a good side with a field behind it is read back from the codes of the side, with the field's code put behind them
--   fields_behind : what is worked out of a question's own fields, and behind it twice what is worked out of any spaces, is what is worked out of the
--                   fields of the question with its hidden fields
--   left_hidden, right_hidden, part_hidden : so the struct of a question with its hidden fields has the sides and the tables of `hidden q`
-- The first follows from a good side being read back (`SidesBack`). The second is computed.
use Prim.Native.Nat.{ℕ, ◌+◌, ◌≤◌, ◌<◌}
use native.Mathlib.Omega.{arith}
use mathlib.Core.Path.{◌≡◌, refl, sym, ap, ◌∙◌}
use mathlib.Core.List.{List, [], ◌∷◌, ◌++◌, map, map-map}
use lib.ListN.{length, take, length-append, length-map}
use lib.Seq.{take_all}
use Rattle.paper.specs.Lists.{upto}
use Rattle.paper.specs.Numbers.{most_characters, fields, set_fields, longest_side, hidden_left, hidden_right}
use Rattle.paper.specs.Equation.{fld, Side}
use Rattle.paper.specs.Question.{Question, held_by, any_spaces, hidden}
use Rattle.paper.proofs.base.Lists.{map_append}
use Rattle.paper_laws.proofs.sheets.Asked.{GoodSide}
use Rattle.paper_laws.proofs.sheets.Hidden.{has_sets_with}
use Rattle.base_places.specs.WorkedOut.{worked_out}
use Rattle.base_codes.specs.Inner.{field_code, token_code, side_code, tokens, padded}
use Rattle.base_codes.proofs.Tokens.{tokens_padded}
use Rattle.base_places.specs.declared.PlaceTables.{PlaceTables}
use Rattle.base_question.specs.Asked.{question_of}
use Rattle.base_question.specs.declared.Body.{Body}
use Rattle.base_question.proofs.SidesBack.{codes_are_tokens, side_back}
use Rattle.search_hidden.specs.Behind.{side_with, with_hidden}

module _ (n : ℕ) (most : n ≤ most_characters) (side : Side) (g : GoodSide n side) (f : ℕ) (h : f < set_fields) where
  with_code : side_code side ++ ((field_code + f) ∷ []) ≡ side_code (side ++ (fld f ∷ []))
  with_code = sym (map_append token_code side (fld f ∷ []))

  pub side_behind : tokens (side_with (field_code + f) (padded (side_code side))) ≡ side_code (side ++ (fld f ∷ []))
  side_behind =
      let long : length (side_code side ++ ((field_code + f) ∷ [])) < longest_side =
      omega (arith, length-append (side_code side) ((field_code + f) ∷ []), length-map side token_code, g.short) in
      ap (λ (l : List ℕ). tokens (padded (take longest_side (l ++ ((field_code + f) ∷ []))))) (side_back n most side g)
      ∙ ap (λ (l : List ℕ). tokens (padded l)) (take_all longest_side (side_code side ++ ((field_code + f) ∷ [])) (omega arith) ∙ with_code)
      ∙ tokens_padded (side_code (side ++ (fld f ∷ []))) (codes_are_tokens (side ++ (fld f ∷ [])) (has_sets_with n most side f g h))

pub fields_behind : (q : Question)
    → map (λ (f : ℕ). worked_out (held_by q f)) (upto fields)
    ++ (worked_out (any_spaces q.alphabet.space) ∷ worked_out (any_spaces q.alphabet.space) ∷ [])
    ≡ map (λ (f : ℕ). worked_out (held_by (hidden q) f)) (upto set_fields)
fields_behind q = refl

module _ (q : Question) (bodies : List Body) where
  module _ (most : q.alphabet.characters ≤ most_characters) where
    pub left_hidden : GoodSide q.alphabet.characters q.left
        → tokens (with_hidden (question_of q bodies)).left ≡ side_code (hidden q).left
    left_hidden g = side_behind q.alphabet.characters most q.left g hidden_left (omega arith)

    pub right_hidden : GoodSide q.alphabet.characters q.right
        → tokens (with_hidden (question_of q bodies)).right ≡ side_code (hidden q).right
    right_hidden g = side_behind q.alphabet.characters most q.right g hidden_right (omega arith)

  -- a part of each field's tables
  pub part_hidden : {A : Type 0} (part : PlaceTables → A)
      → map part (with_hidden (question_of q bodies)).fields ≡ map (λ (f : ℕ). part (worked_out (held_by (hidden q) f))) (upto set_fields)
  part_hidden part = ap (map part) (fields_behind q) ∙ map-map part (λ (f : ℕ). worked_out (held_by (hidden q) f)) (upto set_fields)
