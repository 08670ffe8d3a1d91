-- The way of given texts: from a sheet, the answer records of texts and a steps buffer, any lists of bytes, to the number, the count, the place, the
-- bytes written and the steps buffer afterwards. One definition, for all lists.
use Rattle.std.specs.Prelude.{ℕ, cond, not, List, ◌++◌, leb, length, drop}
use Rattle.paper.specs.Question.{Question}
use Rattle.paper.specs.Sheet.{fault_number, Reading, refused, asked, read_sheet}
use Rattle.paper_steps.specs.StepRecords.{step_records}
use Rattle.paper_steps.specs.Player.{Played, stopped, arrived}
use Rattle.paper_way.specs.TextRecords.{TextsRead, no_texts, texts_read, read_texts}
use Rattle.paper_way.specs.TextSteps.{spelled}

pub record Way : Type 0 where
  pub number : ℕ
  pub count : ℕ
  pub place : ℕ
  pub written : ℕ
  pub steps : List ℕ

-- a refusal, which changes nothing: count and place are 0, but for the place of a sheet at fault
abbrev pub way_refused : ℕ → ℕ → List ℕ → Way
way_refused number place steps = record { number = number; count = 0; place = place; written = 0; steps = steps }

-- the records of the steps, 51 where they don't fit
unfoldable pub way_told : List ℕ → List ℕ → Way
way_told bytes steps =
    cond (not (leb (length bytes) (length steps))) (way_refused 51 0 steps)
    (record { number = 0; count = 0; place = 0; written = length bytes; steps = bytes ++ drop (length bytes) steps })

abbrev pub way_ended : List ℕ → Played → Way
way_ended steps (stopped n) = way_refused n 0 steps
way_ended steps (arrived e) = way_told (step_records e.way) steps

-- 47: the bytes are no records of the fields that stand
abbrev pub way_read : Question → List ℕ → TextsRead → Way
way_read q steps no_texts = way_refused 47 0 steps
way_read q steps (texts_read texts) = way_ended steps (spelled q texts)

abbrev pub way_of : Reading → List ℕ → List ℕ → Way
way_of (refused x at) texts steps = way_refused (fault_number x) at steps
way_of (asked q) texts steps = way_read q steps (read_texts q texts)

unfoldable pub way : List ℕ → List ℕ → List ℕ → Way
way sheet texts steps = way_of (read_sheet sheet) texts steps
