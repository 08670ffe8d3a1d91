-- Texts spelt out on a question, by inner codes: for any sides, tables, bytes of texts and steps buffer. How it ends, and the steps buffer then.
use Rattle.std.specs.Prelude.{ℕ, ◌≡◌, cond, not, Option, None, Some, Result, Ok, Err, List, ◌++◌, leb, length, drop}
use Rattle.paper_way.specs.WayOutcome.{Way, way_refused}
use Rattle.base_codes.specs.Inner.{tokens}
use Rattle.base_question.specs.declared.Question.{Question}
use Rattle.search_records.specs.Records.{fields_with_sets}
use Rattle.play_walk.specs.WalkCoded.{Ending, stop_number}
use Rattle.play_walk.specs.declared.Stop.TheVariants.{NoRecord}
use Rattle.play_question.specs.QuestionPlayed.{question_tables, question_first}
use Rattle.way_records.specs.Spans.{TextsFound}
use Rattle.way_records.specs.declared.Spans.{Spans}
use Rattle.way_walk.specs.SpellCoded.{Spelling, spelled_coded}
use Rattle.way_question.specs.declared.WayStop.{WayStop}
use Rattle.way_question.specs.declared.WayStop.TheVariants.{StepsTooShort, Stopped}

-- how it ends: with so many bytes of steps, or without
abbrev pub End : Type 0
End = Result ℕ WayStop

-- "51 if the steps don't fit"
abbrev pub end_by : Ending → List ℕ → List ℕ → End
end_by (Ok done) bytes steps = cond (not (leb (length bytes) (length steps))) (Err StepsTooShort) (Ok (length bytes))
end_by (Err why) bytes steps = Err (Stopped why)

abbrev pub buffer_by : Ending → List ℕ → List ℕ → List ℕ
buffer_by (Ok done) bytes steps = cond (not (leb (length bytes) (length steps))) steps (bytes ++ drop (length bytes) steps)
buffer_by (Err why) bytes steps = steps

-- how it ends, by where spelling ends; and the steps buffer then
pub record WaySpelt (y : Spelling) (before after : List ℕ) (r : End) : Type 0 where
  pub end : r ≡ end_by y.ending y.bytes before
  pub buffer : after ≡ buffer_by y.ending y.bytes before

-- there are no records of the texts
pub record Unread (before after : List ℕ) (r : End) : Type 0 where
  pub end : r ≡ Err (Stopped NoRecord)
  pub buffer : after ≡ before

-- by whether there are
abbrev pub SpeltBy : (Spans → Spelling) → (before after : List ℕ) → End → Option Spans → Type 0
SpeltBy of before after r None = Unread before after r
SpeltBy of before after r (Some s) = WaySpelt (of s) before after r

-- of a question
pub record WayOn (s : Question) (texts before after : List ℕ) (r : End) : Type 0 where
  pub spans : Option Spans
  pub found : TextsFound s.alphabet.characters (fields_with_sets (question_first s).sets) texts (tokens s.left) (tokens s.right) spans
  pub spelt : SpeltBy (λ (p : Spans). spelled_coded (question_tables s) s.alphabet.space texts p.ends (question_first s) p.left) before after r spans

-- what is told of an end, with the steps buffer as it is afterwards
abbrev pub told_end : End → List ℕ → Way
told_end (Ok n) steps = record { number = 0; count = 0; place = 0; written = n; steps = steps }
told_end (Err StepsTooShort) steps = way_refused 51 0 steps
told_end (Err (Stopped why)) steps = way_refused (stop_number why) 0 steps
