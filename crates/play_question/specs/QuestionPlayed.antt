-- A question played, by inner codes: for any sides, tables, bytes of steps and answer buffer. How it ends, and the answer buffer then.
use Rattle.std.specs.Prelude.{ℕ, ◌≡◌, Bool, true, false, Option, None, Some, Result, Ok, Err, List, map}
use Rattle.paper_steps.specs.Player.{Play, play_refused}
use Rattle.base_codes.specs.Inner.{tokens}
use Rattle.base_codes.specs.Coded.{Coded}
use Rattle.base_question.specs.declared.Question.{Question}
use Rattle.search_hidden.specs.Behind.{with_hidden}
use Rattle.search_tables.specs.Tables.{follow_of, taking_of, last_of}
use Rattle.search_trim.specs.Trimming.{question_coded}
use Rattle.search_children.specs.Children.{Tables}
use Rattle.search_children.specs.Laid.{tables}
use Rattle.play_walk.specs.WalkCoded.{Ending, stop_number, walked}
use Rattle.play_texts.specs.WayRecords.{way_records, way_given, way_buffer}
use Rattle.play_question.specs.declared.PlayStop.{PlayStop}
use Rattle.play_question.specs.declared.PlayStop.TheVariants.{AnswerTooShort, Stopped}

-- how many characters there are, and what is worked out of the fields, with the hidden ones
abbrev pub question_tables : Question → Tables
question_tables s =
    let fields = (with_hidden s).fields in
    tables (with_hidden s).characters (map follow_of fields) (map taking_of fields) (map last_of fields)

-- the trimmed question
abbrev pub question_first : Question → Coded
question_first s = question_coded (tokens (with_hidden s).left) (tokens (with_hidden s).right)

-- how playing ends: with so many bytes of texts, or without
abbrev pub End : Type 0
End = Result ℕ PlayStop

abbrev pub end_of : Option ℕ → End
end_of None = Err AnswerTooShort
end_of (Some n) = Ok n

-- how it ends, by where playing ends and by the records of the texts; and the answer buffer then
abbrev pub end_by : Ending → List ℕ → List ℕ → End
end_by (Ok done) bytes answer = end_of (way_given bytes answer)
end_by (Err why) bytes answer = Err (Stopped why)

abbrev pub buffer_by : Ending → List ℕ → List ℕ → List ℕ
buffer_by (Ok done) bytes answer = way_buffer bytes answer
buffer_by (Err why) bytes answer = answer

-- what one function tells of playing: where the walk ends, or, where they are wanted, the texts
abbrev pub walk_end : Ending → End
walk_end (Ok done) = Ok 0
walk_end (Err why) = Err (Stopped why)

pub record TextsPut (bytes before after : List ℕ) (r : End) : Type 0 where
  pub end : r ≡ end_of (way_given bytes before)
  pub buffer : after ≡ way_buffer bytes before

abbrev pub PartOf : Bool → Tables → Coded → (steps before after : List ℕ) → End → Type 0
PartOf false T s steps before after r = r ≡ walk_end (walked T s steps)
PartOf true T s steps before after r = TextsPut (way_records T s steps) before after r

pub record PlayedFrom (T : Tables) (s : Coded) (steps before after : List ℕ) (r : End) : Type 0 where
  pub end : r ≡ end_by (walked T s steps) (way_records T s steps) before
  pub buffer : after ≡ buffer_by (walked T s steps) (way_records T s steps) before

-- what is told of an end, with the answer buffer as it is afterwards
abbrev pub told_end : End → List ℕ → Play
told_end (Ok n) answer = record { number = 0; count = 0; place = 0; written = n; answer = answer }
told_end (Err AnswerTooShort) answer = play_refused 20 0 answer
told_end (Err (Stopped why)) answer = play_refused (stop_number why) 0 answer
