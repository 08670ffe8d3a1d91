-- The question of the code, by the question of the paper: its alphabet, its sides by inner codes, what is worked out of what each field may hold, and where
-- the fields' patterns stand.
use Rattle.std.specs.Prelude.{ℕ, List, [], map, replicate}
use Rattle.paper.specs.Lists.{upto}
use Rattle.paper.specs.Numbers.{fields}
use Rattle.paper.specs.Pattern.{some_text}
use Rattle.paper.specs.Alphabet.{code_39}
use Rattle.paper.specs.Question as Paper
use Rattle.base_places.specs.WorkedOut.{worked_out}
use Rattle.base_places.specs.declared.PlaceTables.{PlaceTables}
use Rattle.base_codes.specs.Inner.{side_code, padded}
use Rattle.base_editions.specs.Editions.{alphabet_code}
use Rattle.base_question.specs.Bodies.{no_bodies}
use Rattle.base_question.specs.declared.Body.{Body}
use Rattle.base_question.specs.declared.Question.{Question}

-- what is worked out of what each field may hold
abbrev pub field_tables : Paper.Question → List PlaceTables
field_tables q = map (λ (f : ℕ). worked_out (Paper.held_by q f)) (upto fields)

abbrev pub question_of : Paper.Question → List Body → Question
question_of q bodies =
    record {
      alphabet = alphabet_code q.alphabet;
      left = padded (side_code q.left);
      right = padded (side_code q.right);
      fields = field_tables q;
      bodies = bodies;
    }

-- nothing is asked: no tokens, and "A field without `PA` is open"
abbrev pub no_question : Question
no_question =
    record {
      alphabet = alphabet_code code_39;
      left = padded [];
      right = padded [];
      fields = replicate fields (worked_out some_text);
      bodies = no_bodies;
    }
