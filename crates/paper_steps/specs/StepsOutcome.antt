-- The search that writes its way (request K14): "After answer 0, write the way found into a third lent buffer as records". From a sheet and three
-- buffers, any lists of bytes, to what 01's outcome has, the bytes of steps and the third buffer afterwards. The search is 01's, and nothing of it is
-- said again: only what becomes of its outcome and of the way that it found.
use Rattle.std.specs.Prelude.{ℕ, Bool, cond, not, List, [], ◌++◌, leb, eqb, length, drop}
use Rattle.paper.specs.Places.{PlaceSet}
use Rattle.paper.specs.Search.{End, found, used_up, no_room, too_long}
use Rattle.paper.specs.Situation.{Situation, Move}
use Rattle.paper.specs.Question.{hidden}
use Rattle.paper.specs.Sheet.{Reading, refused, asked, read_sheet}
use Rattle.paper.specs.Outcome.{Outcome, outcome_of}
use Rattle.paper.specs.Demands.{end_of}
use Rattle.paper_steps.specs.StepRecords.{step_records}

pub record StepsOutcome : Type 0 where
  pub number : ℕ
  pub count : ℕ
  pub place : ℕ
  pub written : ℕ
  pub step_bytes : ℕ
  pub answer : List ℕ
  pub work : List ℕ
  pub steps : List ℕ

-- "the way found": its records, none where the search finds none
abbrev pub end_steps : End (Situation PlaceSet) Move → List ℕ
end_steps (found e) = step_records e.way
end_steps used_up = []
end_steps no_room = []
end_steps too_long = []

abbrev pub steps_found : Reading → List ℕ → List ℕ
steps_found (refused x at) work = []
steps_found (asked q) work = end_steps (end_of (hidden q) work)

-- every answer but 0: as 01 has it, and no step is written
abbrev pub without_steps : Outcome → List ℕ → StepsOutcome
without_steps o steps =
    record {
      number = o.number;
      count = o.count;
      place = o.place;
      written = o.written;
      step_bytes = 0;
      answer = o.answer;
      work = o.work;
      steps = steps;
    }

-- 51: the answer buffer is unchanged too
abbrev pub steps_too_short : Outcome → List ℕ → List ℕ → StepsOutcome
steps_too_short o answer steps =
    record {
      number = 51;
      count = o.count;
      place = o.place;
      written = 0;
      step_bytes = 0;
      answer = answer;
      work = o.work;
      steps = steps;
    }

-- 0: the records, and the rest of the third buffer is unchanged
abbrev pub steps_written : List ℕ → Outcome → List ℕ → StepsOutcome
steps_written bytes o steps =
    record {
      number = o.number;
      count = o.count;
      place = o.place;
      written = o.written;
      step_bytes = length bytes;
      answer = o.answer;
      work = o.work;
      steps = bytes ++ drop (length bytes) steps;
    }

-- "After answer 0"
abbrev pub is_clash : Outcome → Bool
is_clash o = eqb o.number 0

-- "51 after 20 if the steps don't fit": only an outcome that is 0 can become 51
unfoldable pub with_steps : List ℕ → Outcome → List ℕ → List ℕ → StepsOutcome
with_steps bytes o answer steps =
    cond (not (is_clash o)) (without_steps o steps)
    (cond (not (leb (length bytes) (length steps))) (steps_too_short o answer steps) (steps_written bytes o steps))

abbrev pub steps_outcome_of : Reading → List ℕ → List ℕ → List ℕ → StepsOutcome
steps_outcome_of r work answer steps = with_steps (steps_found r work) (outcome_of r work answer) answer steps

unfoldable pub steps_outcome : List ℕ → List ℕ → List ℕ → List ℕ → StepsOutcome
steps_outcome sheet work answer steps = steps_outcome_of (read_sheet sheet) work answer steps
