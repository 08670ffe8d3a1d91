-- What is promised of the player (request K14), of every reading, all bytes of steps, every answer buffer and any outcome p: "It accepts exactly if
-- each step is an allowed child and the last situation is finished; then the texts meet demand 2." A way is one of 01's children (`Leads`), with no
-- word of the player.
use Rattle.std.specs.Prelude.{ℕ, ◌≤◌, ◌<◌, ◌≡◌, ◌⊎◌, true, false, List, [], ◌++◌, length, drop}
use Rattle.paper.specs.Numbers.{longest_side, longest_text}
use Rattle.paper.specs.Places.{PlaceSet}
use Rattle.paper.specs.Search.{Entry}
use Rattle.paper.specs.Leads.{Leads}
use Rattle.paper.specs.Situation.{Situation, Move, finished, children, question}
use Rattle.paper.specs.Children.{ChildOf}
use Rattle.paper.specs.Question.{Question, Solution, hidden, acceptor}
use Rattle.paper.specs.Sheet.{Fault, fault_number, Reading, refused, asked}
use Rattle.paper.specs.Demands.{texts_spelt, records_of}
use Rattle.paper_steps.specs.StepRecords.{step_record, step_records, IsStep}
use Rattle.paper_steps.specs.Player.{most_steps, Play}

module _ (q : Question) where
  -- the way of an entry leads to it from the trimmed question: each move makes a child that is not dead and has no side above 48 tokens
  abbrev pub WayTo : Entry (Situation PlaceSet) Move → Type 0
  WayTo e =
      Leads (children (acceptor (hidden q)) longest_side) (question (acceptor (hidden q)) (hidden q).left (hidden q).right) e.way e.at

  -- the bytes are the records of a way and then `rest`
  pub record Begins (bytes : List ℕ) (e : Entry (Situation PlaceSet) Move) (rest : List ℕ) : Type 0 where
    pub said : bytes ≡ step_records e.way ++ rest
    pub leads : WayTo e

  -- "each step is an allowed child and the last situation is finished", in at most 65,534 records
  pub record Accepted (bytes : List ℕ) (e : Entry (Situation PlaceSet) Move) : Type 0 where
    pub said : bytes ≡ step_records e.way
    pub few : length e.way ≤ most_steps
    pub leads : WayTo e
    pub at_finish : finished (acceptor (hidden q)) e.at ≡ true

  -- The refusals of bytes, by their numbers: the first record that can't be made, or their end before the finish.
  pub data Stops (bytes : List ℕ) : ℕ → Type 0 where
    -- "50 if it is past the 65,534th", whatever the bytes behind that are
    past_most : (e : Entry (Situation PlaceSet) Move) (rest : List ℕ)
        → Begins bytes e rest → length e.way ≡ most_steps → (rest ≡ [] → ⊥) → Stops bytes 50
    -- "47 for one cut short, with another mark, a kind above 2 or a value that is no character": no step's record stands there
    is_no_record : (e : Entry (Situation PlaceSet) Move) (rest : List ℕ)
        → Begins bytes e rest → length e.way < most_steps → (rest ≡ [] → ⊥)
        → ((m : Move) (later : List ℕ) → IsStep q.alphabet.characters m → rest ≡ step_record m ++ later → ⊥) → Stops bytes 47
    -- "48 for a step not allowed": the step makes no child
    makes_no_child : (e : Entry (Situation PlaceSet) Move) (m : Move) (later : List ℕ)
        → Begins bytes e (step_record m ++ later) → length e.way < most_steps → IsStep q.alphabet.characters m
        → ((t : Situation PlaceSet) → ChildOf (acceptor (hidden q)) e.at m t → ⊥) → Stops bytes 48
    -- "19 for a long side": its child has one
    makes_long : (e : Entry (Situation PlaceSet) Move) (m : Move) (later : List ℕ) (t : Situation PlaceSet)
        → Begins bytes e (step_record m ++ later) → length e.way < most_steps
        → ChildOf (acceptor (hidden q)) e.at m t
        → (longest_side < length t.left) ⊎ (longest_side < length t.right) → Stops bytes 19
    -- "49 where the records end before the finish"
    ends_early : (e : Entry (Situation PlaceSet) Move)
        → Begins bytes e [] → length e.way ≤ most_steps → finished (acceptor (hidden q)) e.at ≡ false → Stops bytes 49

-- the answer records of the texts that a way spells
abbrev pub way_answer : Question → Entry (Situation PlaceSet) Move → List ℕ
way_answer q e = records_of q (texts_spelt (hidden q) e)

-- 0: the records of the texts in front, and the rest of the answer buffer unchanged
pub record Carries (bytes answer : List ℕ) (p : Play) : Type 0 where
  pub number : p.number ≡ 0
  pub written : p.written ≡ length bytes
  pub answer_after : p.answer ≡ bytes ++ drop (length bytes) answer

pub record PlayPromised (r : Reading) (steps answer : List ℕ) (p : Play) : Type 0 where
  -- "It accepts exactly if each step is an allowed child and the last situation is finished"
  pub accepted : (q : Question) → r ≡ asked q → (p.number ≡ 0) ⊎ (p.number ≡ 20)
      → (e : Entry (Situation PlaceSet) Move) × Accepted q steps e
  pub accepts : (q : Question) → r ≡ asked q → (e : Entry (Situation PlaceSet) Move) → Accepted q steps e → (p.number ≡ 0) ⊎ (p.number ≡ 20)
  -- "then the texts meet demand 2"
  pub solves : (q : Question) → r ≡ asked q → (e : Entry (Situation PlaceSet) Move) → Accepted q steps e → Solution q (texts_spelt (hidden q) e)
  -- and two bytes hold the length of each
  pub lengths : (q : Question) → r ≡ asked q → (e : Entry (Situation PlaceSet) Move) → Accepted q steps e
      → (f : ℕ) → length (texts_spelt (hidden q) e f) ≤ longest_text
  -- "gives the texts at the end", "then 20 for a short answer buffer"
  pub carries : (q : Question) → r ≡ asked q → (e : Entry (Situation PlaceSet) Move) → Accepted q steps e
      → length (way_answer q e) ≤ length answer → Carries (way_answer q e) answer p
  pub too_short : (q : Question) → r ≡ asked q → (e : Entry (Situation PlaceSet) Move) → Accepted q steps e
      → length answer < length (way_answer q e) → p.number ≡ 20
  -- the refusals of the records, each exactly where the request says
  pub stops : (q : Question) → r ≡ asked q → (n : ℕ) → Stops q steps n → p.number ≡ n
  pub stopped : (q : Question) → r ≡ asked q → (p.number ≡ 0 → ⊥) → (p.number ≡ 20 → ⊥) → Stops q steps p.number
  -- "the sheet's own", first
  pub refuses : (x : Fault) (at : ℕ) → r ≡ refused x at → (p.number ≡ fault_number x) × (p.place ≡ at)
  -- a refusal writes no byte; no situation is counted, and only a sheet at fault has a place
  pub unchanged : (p.number ≡ 0 → ⊥) → (p.written ≡ 0) × (p.answer ≡ answer)
  pub no_count : p.count ≡ 0
  pub no_place : (q : Question) → r ≡ asked q → p.place ≡ 0
