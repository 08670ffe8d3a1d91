-- The steps of a clash, from the bytes of the slots: the records of the way to the last slot, and what becomes of the answer buffer and the third one.
use Rattle.std.specs.Prelude.{ℕ, zero, suc, ◌<◌, ◌≡◌, cond, not, List, [], ◌∷◌, ◌++◌, leb, ltb, eqb, length}
use Rattle.paper.specs.Lists.{only}
use Rattle.paper_steps.specs.StepRecords.{step_mark_1, step_mark_2}
use Rattle.base_codes.specs.Inner.{left_struck, right_struck}
use Rattle.base_steps.specs.declared.StepsHow.{StepsHow}
use Rattle.base_steps.specs.declared.StepsHow.TheVariants.{Clash, AnswerTooShort, StepsTooShort}
use Rattle.search_records.specs.Records.{parent_in, step_in, in_front}
use Rattle.search_records.specs.declared.Origin.{Origin}

-- "a kind byte (0 left front struck, 1 right front struck, 2 a character)", by the step's code
abbrev pub kind_of : ℕ → ℕ
kind_of step = cond (eqb step left_struck) 0 (cond (eqb step right_struck) 1 2)

-- "mark `ST`, a kind byte .. and for kind 2 its value"
unfoldable pub step_bytes : ℕ → List ℕ
step_bytes step = step_mark_1 ∷ step_mark_2 ∷ kind_of step ∷ only (eqb (kind_of step) 2) step

-- The slot before slot i on its way. A parent that is not before its slot leads nowhere: the way begins there.
abbrev pub slot_before : List ℕ → ℕ → ℕ
slot_before work i =
    let p = parent_in work i in cond (ltb p i) p 0

-- "the way found .. as records": from slot i back to slot 0, in at most so many steps
abbrev pub steps_back : ℕ → List ℕ → ℕ → List ℕ
steps_back zero work i = []
steps_back (suc n) work zero = []
steps_back (suc n) work (suc i) = steps_back n work (slot_before work (suc i)) ++ step_bytes (step_in work (suc i))

abbrev pub way_steps : List ℕ → ℕ → List ℕ
way_steps work i = steps_back i work i

-- one step back from slot i: to one before it, and the records to slot i are those to the other, with that of the step
pub record StepsBefore (work : List ℕ) (i : ℕ) (back : Origin) : Type 0 where
  pub falls : back.parent < i
  pub records : way_steps work i ≡ way_steps work back.parent ++ step_bytes back.step

-- how a search with steps ended, and both buffers then
pub record StepsTold : Type 0 where
  pub how : StepsHow
  pub answer : List ℕ
  pub steps : List ℕ

abbrev pub steps_told : StepsHow → List ℕ → List ℕ → StepsTold
steps_told how answer steps = record { how = how; answer = answer; steps = steps }

-- a clash with these answer records and these records of steps: "51, after 20"; where one doesn't fit both buffers are unchanged
unfoldable pub steps_answered : List ℕ → List ℕ → List ℕ → List ℕ → StepsTold
steps_answered texts way answer steps =
    cond (not (leb (length texts) (length answer))) (steps_told AnswerTooShort answer steps)
    (cond (not (leb (length way) (length steps))) (steps_told StepsTooShort answer steps)
    (steps_told (Clash (length texts) (length way)) (in_front texts answer) (in_front way steps)))
