-- What is promised of the way of given texts, of every reading, all bytes, every steps buffer and any outcome o: it is written exactly if the texts solve
-- the question, no side passes 48 tokens on the way and the way has at most 65,534 steps; the player accepts what is written and gives back the texts.
use Rattle.std.specs.Prelude.{ℕ, ◌≤◌, ◌<◌, ◌≡◌, ◌⊎◌, true, false, length, take, drop}
use mathlib.Core.List.{List, [], ◌∷◌, ◌++◌, Memᴰ}
use Rattle.paper.specs.Numbers.{longest_side}
use Rattle.paper.specs.Places.{PlaceSet}
use Rattle.paper.specs.Search.{Entry, child}
use Rattle.paper.specs.Equation.{Texts, Over}
use Rattle.paper.specs.Situation.{Situation, Move, finished, children}
use Rattle.paper.specs.Children.{ChildOf}
use Rattle.paper.specs.Question.{Question, Solution, hidden, acceptor}
use Rattle.paper.specs.Sheet.{Fault, fault_number, Reading, refused, asked}
use Rattle.paper.specs.Outcome.{standing}
use Rattle.paper.specs.Demands.{texts_spelt, records_of}
use Rattle.paper_steps.specs.StepRecords.{step_records}
use Rattle.paper_steps.specs.Player.{most_steps, first_entry, play_told, play_of}
use Rattle.paper_steps.specs.PlayPromised.{Accepted}
use Rattle.paper_way.specs.TextSteps.{spaced, Next, no_step, next, next_step, texts_behind}
use Rattle.paper_way.specs.WayOutcome.{Way}

module _ (q : Question) where
  -- The bytes are the answer records of these texts, over the question's characters. A field that doesn't stand has no text.
  pub record Says (bytes : List ℕ) (texts : Texts) : Type 0 where
    pub records : bytes ≡ records_of q texts
    pub over : (f : ℕ) → Memᴰ f (standing q) → Over q.alphabet.characters (texts f)
    pub none : (f : ℕ) → (Memᴰ f (standing q) → ⊥) → texts f ≡ []

  abbrev pub At : Type 0
  At = Entry (Situation PlaceSet) Move

  abbrev pub next_at : Texts → At → Next
  next_at rest e = next_step rest e.at.left e.at.right

  -- The way of the texts, as far as an entry, with what is left of them: each step is the one that the rule picks, and its child one that the search is given.
  pub data Spells (texts : Texts) : At → Texts → Type 0 where
    begins : Spells texts (first_entry (hidden q)) (spaced q texts)
    goes_on : {e : At} {rest : Texts} (m : Move) (t : Situation PlaceSet) → Spells texts e rest → next_at rest e ≡ next m
        → Memᴰ (child m t) (children (acceptor (hidden q)) longest_side e.at)
        → Spells texts (record { at = t; way = m ∷ e.way }) (texts_behind rest e.at m)

  -- to its finish
  pub record Spelt (texts : Texts) (e : At) : Type 0 where
    pub rest : Texts
    pub by_rule : Spells texts e rest
    pub few : length e.way ≤ most_steps
    pub at_finish : finished (acceptor (hidden q)) e.at ≡ true

  -- a side above 48 tokens
  abbrev pub Long : Situation PlaceSet → Type 0
  Long t = (longest_side < length t.left) ⊎ (longest_side < length t.right)

  -- "no side passes 48 on the way"
  abbrev pub SidesShort : Texts → Type 0
  SidesShort texts =
      (e : At) (rest : Texts) (m : Move) (t : Situation PlaceSet) → Spells texts e rest → next_at rest e ≡ next m
      → ChildOf (acceptor (hidden q)) e.at m t → Long t → ⊥

  -- and no more than 65,534 steps, which is what the player takes
  abbrev pub FewSteps : Texts → Type 0
  FewSteps texts = (e : At) (rest : Texts) → Spells texts e rest → length e.way ≤ most_steps

  -- The refusals of the records and of the texts, by their numbers.
  pub data WayStops (bytes : List ℕ) : ℕ → Type 0 where
    -- 47: they are no records of the fields that stand
    no_records : ((texts : Texts) → Says bytes texts → ⊥) → WayStops bytes 47
    -- 50: a step past the 65,534th
    past_most : (texts : Texts) (e : At) (rest : Texts) → Says bytes texts → Spells texts e rest → length e.way ≡ most_steps
        → finished (acceptor (hidden q)) e.at ≡ false → WayStops bytes 50
    -- 48: the labels go on with different characters
    go_apart : (texts : Texts) (e : At) (rest : Texts) → Says bytes texts → Spells texts e rest → length e.way < most_steps
        → finished (acceptor (hidden q)) e.at ≡ false → next_at rest e ≡ no_step → WayStops bytes 48
    -- 48: the step makes no child
    makes_no_child : (texts : Texts) (e : At) (rest : Texts) (m : Move) → Says bytes texts → Spells texts e rest → length e.way < most_steps
        → finished (acceptor (hidden q)) e.at ≡ false → next_at rest e ≡ next m
        → ((t : Situation PlaceSet) → ChildOf (acceptor (hidden q)) e.at m t → ⊥) → WayStops bytes 48
    -- 19: its child has a long side
    makes_long : (texts : Texts) (e : At) (rest : Texts) (m : Move) (t : Situation PlaceSet) → Says bytes texts → Spells texts e rest
        → length e.way < most_steps → next_at rest e ≡ next m → ChildOf (acceptor (hidden q)) e.at m t → Long t → WayStops bytes 19

  -- What a way that is written says of the records: they are texts that solve the question, by a way without a long side or a step too many. The player
  -- accepts it, and the texts that it spells are these.
  pub record Solving (bytes : List ℕ) : Type 0 where
    pub texts : Texts
    pub says : Says bytes texts
    pub solution : Solution q texts
    pub sides_short : SidesShort texts
    pub few_steps : FewSteps texts
    pub entry : At
    pub spelt : Spelt texts entry
    pub accepted : Accepted q (step_records entry.way) entry
    pub same_texts : (f : ℕ) → Memᴰ f (standing q) → texts_spelt (hidden q) entry f ≡ texts f

-- 0: the records of the steps in front, and the rest of the steps buffer unchanged
pub record Wrote (bytes steps : List ℕ) (o : Way) : Type 0 where
  pub number : o.number ≡ 0
  pub written : o.written ≡ length bytes
  pub steps_after : o.steps ≡ bytes ++ drop (length bytes) steps

pub record WayPromised (r : Reading) (texts steps : List ℕ) (o : Way) : Type 0 where
  -- 0, or 51 where the steps buffer is too short, exactly if the texts solve the question and no side passes 48 on the way
  pub solved : (q : Question) → r ≡ asked q → (o.number ≡ 0) ⊎ (o.number ≡ 51) → Solving q texts
  pub solves : (q : Question) → r ≡ asked q → (t : Texts) → Says q texts t → Solution q t → SidesShort q t → FewSteps q t
      → (o.number ≡ 0) ⊎ (o.number ≡ 51)
  -- the steps by the rule, "51 if the steps don't fit"
  pub wrote : (q : Question) → r ≡ asked q → (t : Texts) (e : At q) → Says q texts t → Spelt q t e
      → length (step_records e.way) ≤ length steps → Wrote (step_records e.way) steps o
  pub too_short : (q : Question) → r ≡ asked q → (t : Texts) (e : At q) → Says q texts t → Spelt q t e
      → length steps < length (step_records e.way) → o.number ≡ 51
  -- "the player accepts what it writes and gives back the texts", byte for byte, for every answer buffer
  pub played : o.number ≡ 0 → (answer : List ℕ) → play_of r (take o.written o.steps) answer ≡ play_told texts answer
  -- the other refusals, each exactly where it is said
  pub stops : (q : Question) → r ≡ asked q → (n : ℕ) → WayStops q texts n → o.number ≡ n
  pub stopped : (q : Question) → r ≡ asked q → (o.number ≡ 0 → ⊥) → (o.number ≡ 51 → ⊥) → WayStops q texts o.number
  -- 48 only if the texts are no solution
  pub no_solution : (q : Question) → r ≡ asked q → o.number ≡ 48 → (t : Texts) → Says q texts t → Solution q t → ⊥
  -- "the sheet's own", first
  pub refuses : (x : Fault) (at : ℕ) → r ≡ refused x at → (o.number ≡ fault_number x) × (o.place ≡ at)
  -- a refusal writes no byte; no situation is counted, and only a sheet at fault has a place
  pub unchanged : (o.number ≡ 0 → ⊥) → (o.written ≡ 0) × (o.steps ≡ steps)
  pub no_count : o.count ≡ 0
  pub no_place : (q : Question) → r ≡ asked q → o.place ≡ 0
