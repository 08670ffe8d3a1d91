-- What is promised of deciding, as a statement about any decision d for a reading, a working buffer and an answer buffer, lists of bytes: demand
-- 2's two sentences, with no word of which search decided.
use Rattle.std.specs.Prelude.{ℕ, ◌*◌, ◌≤◌, ◌<◌, ◌≡◌, true, false, not, eqb, length, take, drop}
use mathlib.Core.List.{List, [], ◌∷◌, Memᴰ, ◌++◌}
use Rattle.paper.specs.Lists.{member}
use Rattle.paper.specs.Numbers.{longest_text}
use Rattle.paper.specs.Equation.{Texts, stands_in}
use Rattle.paper.specs.Question.{Question, Solution}
use Rattle.paper.specs.Sheet.{Reading}
use Rattle.paper.specs.Outcome.{Outcome, room_of, standing, outcome_of}
use Rattle.paper.specs.Buffers.{Demand1}
use Rattle.paper.specs.Demands.{Good, records_of, NoClash}
use Rattle.paper_decide.specs.Deciding.{most_attempts, Decision}

-- "0: the texts solve the question": the first bytes of the answer buffer, as many as are written, are the records of texts that solve it, one for
-- each field that stands; the rest of the buffer is unchanged
pub record ClashTold (r : Reading) (answer : List ℕ) (o : Outcome) : Type 0 where
  pub question : Question
  pub good : Good r question
  pub texts : Texts
  pub solution : Solution question texts
  pub written : take o.written o.answer ≡ records_of question texts
  pub each_field : (f : ℕ) → stands_in f (question.left ++ question.right) ≡ true → Memᴰ f (standing question)
  pub lengths : (f : ℕ) → Memᴰ f (standing question) → length (texts f) ≤ longest_text
  pub rest : drop o.written o.answer ≡ drop o.written answer
  pub fits : o.written ≤ length answer
  pub same_length : length o.answer ≡ length answer

-- 20: there are texts that solve the question, and their records don't fit
pub record TextsDontFit (r : Reading) (answer : List ℕ) : Type 0 where
  pub question : Question
  pub good : Good r question
  pub texts : Texts
  pub solution : Solution question texts
  pub short : length answer < length (records_of question texts)

pub record Decided (r : Reading) (work answer : List ℕ) (d : Decision) : Type 0 where
  -- "Number, .. place, written length, buffers as everywhere": demand 1
  pub demand1 : Demand1 r work answer d.outcome
  -- "0: the texts solve the question"
  pub clash : d.outcome.number ≡ 0 → ClashTold r answer d.outcome
  -- "1: no such texts exist, of any length"
  pub no_clash : d.outcome.number ≡ 1 → NoClash r
  pub too_short : d.outcome.number ≡ 20 → TextsDontFit r answer
  -- a good reading gets one of these
  pub good_number : (q : Question) → Good r q → member d.outcome.number (0 ∷ 1 ∷ 18 ∷ 19 ∷ 20 ∷ []) ≡ true
  -- "If `clash` with the same buffers gives 0, 1, 20 or a refusal of the sheet, `decide` gives the same in every number and byte"
  pub as_clash : member (outcome_of r work answer).number (18 ∷ 19 ∷ []) ≡ false → d.outcome ≡ outcome_of r work answer
  -- "Otherwise not decided: 18 or 19 as the first search said it"
  pub not_decided : member d.outcome.number (18 ∷ 19 ∷ []) ≡ true → d.outcome.number ≡ (outcome_of r work answer).number
  -- "Which search decided is told": the attempt's number, and 0 where none did
  pub search_told : member d.outcome.number (0 ∷ 1 ∷ 20 ∷ []) ≡ not (eqb d.search 0)
  pub search_number : d.search ≤ most_attempts
  -- the situations of all the searches made, each within the room
  pub count_within : d.outcome.count ≤ most_attempts * room_of work
