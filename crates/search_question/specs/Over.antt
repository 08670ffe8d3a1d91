-- The search of a question over some characters, which have a mark each: of any sides, tables, marks and buffers. The end, and the answer buffer
-- then.
use Rattle.std.specs.Prelude.{ℕ, Bool, List, map}
use Rattle.base_places.specs.Masks.{within}
use Rattle.base_codes.specs.Inner.{tokens}
use Rattle.base_codes.specs.Coded.{Coded}
use Rattle.base_question.specs.declared.Question.{Question}
use Rattle.search_hidden.specs.Behind.{with_hidden}
use Rattle.search_tables.specs.Cut.{cut_coded}
use Rattle.search_tables.specs.Tables.{follow_of, taking_of, last_of}
use Rattle.search_trim.specs.Trimming.{question_coded}
use Rattle.search_children.specs.Children.{Tables}
use Rattle.search_run.specs.Ended.{room_for, ended_with, buffer_with}
use Rattle.search_children.specs.Laid.{tables}
use Rattle.search_run.specs.StepsEnded.{StepsRun, steps_with}
use Rattle.base_answers.specs.declared.Ended.{Ended}

-- what is worked out of the fields, with the hidden ones; no place takes another character
abbrev pub tables_among : List Bool → Question → Tables
tables_among among s =
    let fields = (with_hidden s).fields in
    tables (within s.alphabet.characters) (map follow_of fields) (cut_coded s.alphabet.characters (map taking_of fields) among) (map last_of fields)

-- the first situation
abbrev pub first_of : Question → Coded
first_of s = question_coded (tokens (with_hidden s).left) (tokens (with_hidden s).right)

-- how the search ends in a working buffer of so many bytes, and the answer buffer then
unfoldable pub ended_over : List Bool → Question → ℕ → List ℕ → Ended
ended_over among s bytes answer = ended_with (tables_among among s) (room_for bytes) (first_of s) answer

unfoldable pub buffer_over : List Bool → Question → ℕ → List ℕ → List ℕ
buffer_over among s bytes answer = buffer_with (tables_among among s) (room_for bytes) (first_of s) answer

-- the same over every character of the question
abbrev pub tables_all : Question → Tables
tables_all s =
    let fields = (with_hidden s).fields in
    tables (within s.alphabet.characters) (map follow_of fields) (map taking_of fields) (map last_of fields)

unfoldable pub ended_all : Question → ℕ → List ℕ → Ended
ended_all s bytes answer = ended_with (tables_all s) (room_for bytes) (first_of s) answer

unfoldable pub buffer_all : Question → ℕ → List ℕ → List ℕ
buffer_all s bytes answer = buffer_with (tables_all s) (room_for bytes) (first_of s) answer

-- and with the way in a third buffer
unfoldable pub steps_all : Question → ℕ → List ℕ → List ℕ → StepsRun
steps_all s bytes answer steps = steps_with (tables_all s) (room_for bytes) (first_of s) answer steps
