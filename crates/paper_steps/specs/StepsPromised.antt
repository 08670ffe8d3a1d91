-- What is promised of the search that writes its way (request K14), of every reading, all three buffers and any outcome o: it is 01's outcome but for 51,
-- and "every way the search writes is accepted, for the same answer buffer, and gives the same texts". And what stands in a larger room (request K11).
use Rattle.std.specs.Prelude.{ℕ, ◌*◌, ◌-◌, ◌≤◌, ◌<◌, ◌≡◌, Bool, true, List, [], ◌∷◌, ◌++◌, length, take, drop, replicate}
use Rattle.paper.specs.Lists.{member}
use Rattle.paper.specs.Sheet.{Reading}
use Rattle.paper.specs.Outcome.{Outcome, room_of, outcome_of}
use Rattle.paper.specs.Demands.{Solved}
use Rattle.paper_steps.specs.StepRecords.{step_records}
use Rattle.paper_steps.specs.StepsOutcome.{StepsOutcome, steps_outcome}
use Rattle.paper_steps.specs.Player.{play_of}

-- as 01's outcome
pub record AsClash (c : Outcome) (o : StepsOutcome) : Type 0 where
  pub number : o.number ≡ c.number
  pub count : o.count ≡ c.count
  pub place : o.place ≡ c.place
  pub written : o.written ≡ c.written
  pub answer : o.answer ≡ c.answer
  pub work : o.work ≡ c.work

-- 51: the answer buffer is unchanged too, and the working buffer all zero
pub record After51 (c : Outcome) (work answer : List ℕ) (o : StepsOutcome) : Type 0 where
  pub is_clash : c.number ≡ 0
  pub count : o.count ≡ c.count
  pub place : o.place ≡ 0
  pub written : o.written ≡ 0
  pub answer_after : o.answer ≡ answer
  pub all_zero : o.work ≡ replicate (length work) 0

-- 0: the records of the way found in front, and the rest of the third buffer unchanged
pub record Wrote (bytes steps : List ℕ) (o : StepsOutcome) : Type 0 where
  pub number : o.number ≡ 0
  pub step_bytes : o.step_bytes ≡ length bytes
  pub steps_after : o.steps ≡ bytes ++ drop (length bytes) steps

-- the records of the way that the search found
abbrev pub way_bytes : {r : Reading} {work : List ℕ} → Solved r work → List ℕ
way_bytes s = step_records s.entry.way

-- How many bytes are always enough for a room: a way has fewer steps than the room has situations, and a record four bytes at most.
abbrev pub enough_steps : ℕ → ℕ
enough_steps room = 4 * (room - 1)

pub record StepsPromised (r : Reading) (work answer steps : List ℕ) (o : StepsOutcome) : Type 0 where
  -- 01's outcome wherever it isn't 51, and 51 only where that is 0
  pub as_clash : (o.number ≡ 51 → ⊥) → AsClash (outcome_of r work answer) o
  pub after_51 : o.number ≡ 51 → After51 (outcome_of r work answer) work answer o
  -- "After answer 0, write the way found", "51 after 20 if the steps don't fit"
  pub wrote : (outcome_of r work answer).number ≡ 0 → (s : Solved r work) → length (way_bytes s) ≤ length steps → Wrote (way_bytes s) steps o
  pub too_short : (outcome_of r work answer).number ≡ 0 → (s : Solved r work) → length steps < length (way_bytes s) → o.number ≡ 51
  -- the third buffer is unchanged after every answer but 0
  pub unchanged : (o.number ≡ 0 → ⊥) → (o.step_bytes ≡ 0) × (o.steps ≡ steps)
  -- "Demand 2 and K9 read 51 as they read 20": there are texts that solve the question
  pub solved : o.number ≡ 51 → Solved r work
  -- "Every way the search writes is accepted, for the same answer buffer, and gives the same texts", byte for byte
  pub accepted : o.number ≡ 0
      → play_of r (take o.step_bytes o.steps) answer
      ≡ record { number = 0; count = 0; place = 0; written = o.written; answer = o.answer }
  -- with so many bytes 51 is never given
  pub enough : enough_steps (room_of work) ≤ length steps → o.number ≡ 51 → ⊥

-- "K11 takes 51 in as well, for the same third buffer too"
abbrev pub steps_settle : ℕ → Bool
steps_settle n = member n (0 ∷ 1 ∷ 19 ∷ 20 ∷ 51 ∷ [])

-- all that is told, the answer buffer and the third buffer. The working buffer has its own length, and stands apart.
pub record SameSteps (before after : StepsOutcome) : Type 0 where
  pub number : after.number ≡ before.number
  pub count : after.count ≡ before.count
  pub place : after.place ≡ before.place
  pub written : after.written ≡ before.written
  pub step_bytes : after.step_bytes ≡ before.step_bytes
  pub answer : after.answer ≡ before.answer
  pub steps : after.steps ≡ before.steps

pub record StepsStand (sheet answer steps work larger : List ℕ) : Type 0 where
  pub same : steps_settle (steps_outcome sheet work answer steps).number ≡ true
      → SameSteps (steps_outcome sheet work answer steps) (steps_outcome sheet larger answer steps)
  pub all_zero : steps_settle (steps_outcome sheet work answer steps).number ≡ true
      → (steps_outcome sheet larger answer steps).work ≡ replicate (length larger) 0
