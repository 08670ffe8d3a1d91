-- A side with a token behind its last one, in its 48 bytes: one that has 48 tokens has no room for it. And a question with its hidden fields.
use Rattle.std.specs.Prelude.{ℕ, ◌+◌, List, [], ◌∷◌, ◌++◌, take}
use Rattle.paper.specs.Numbers.{longest_side, hidden_left, hidden_right}
use Rattle.paper.specs.Question.{any_spaces}
use Rattle.base_codes.specs.Inner.{field_code, tokens, padded}
use Rattle.base_places.specs.WorkedOut.{worked_out}
use Rattle.base_places.specs.declared.PlaceTables.{PlaceTables}
use Rattle.base_question.specs.declared.Question.{Question}

abbrev pub side_with : ℕ → List ℕ → List ℕ
side_with token side = padded (take longest_side (tokens side ++ (token ∷ [])))

-- a question with its hidden fields, and how many characters its alphabet has
pub record Hidden : Type 0 where
  pub characters : ℕ
  pub left : List ℕ
  pub right : List ℕ
  pub fields : List PlaceTables

-- "Each side is to be read as if one hidden field, of any number of spaces, stood at its end: field 8 on the left and 9 on the right"
abbrev pub with_hidden : Question → Hidden
with_hidden s =
    record {
      characters = s.alphabet.characters;
      left = side_with (field_code + hidden_left) s.left;
      right = side_with (field_code + hidden_right) s.right;
      fields = s.fields ++ (worked_out (any_spaces s.alphabet.space) ∷ worked_out (any_spaces s.alphabet.space) ∷ []);
    }
