-- The player (request K14): "given a sheet and such records from anywhere, it makes each step by 01's rules and gives the texts at the end". From a
-- sheet, the bytes of steps and an answer buffer, any lists of bytes, to the number, the count, the place, the bytes written and the buffer
-- afterwards. One definition, for all lists. It goes from entry to entry, as the search does, so that what it writes at the end is what the search
-- writes for the entry it finds; "neither room nor earlier entries count".
use Rattle.std.specs.Prelude.{ℕ, zero, suc, Bool, true, false, cond, not, ◌&&◌, List, [], ◌∷◌, ◌++◌, leb, eqb, length, drop}
use Rattle.paper.specs.Lists.{any}
use Rattle.paper.specs.Numbers.{longest_side}
use Rattle.paper.specs.Places.{PlaceSet}
use Rattle.paper.specs.Search.{Entry}
use Rattle.paper.specs.Situation.{Situation, Kind, is_finished, is_dead, is_open, Move, strike_left, strike_right, put}
use Rattle.paper.specs.Situation.{kind, trimmed, moved, moves_of, side_above, finished, question}
use Rattle.paper.specs.Question.{Question, hidden, acceptor}
use Rattle.paper.specs.Sheet.{fault_number, Reading, refused, asked, read_sheet}
use Rattle.paper.specs.Demands.{texts_spelt, records_of}
use Rattle.paper_steps.specs.StepRecords.{Front, no_record, front, front_of}

-- "50 if it is past the 65,534th"
abbrev pub most_steps : ℕ
most_steps = 65534

abbrev pub same_move : Move → Move → Bool
same_move strike_left strike_left = true
same_move strike_left strike_right = false
same_move strike_left (put d) = false
same_move strike_right strike_left = false
same_move strike_right strike_right = true
same_move strike_right (put d) = false
same_move (put c) strike_left = false
same_move (put c) strike_right = false
same_move (put c) (put d) = eqb c d

abbrev pub kind_dead : Kind → Bool
kind_dead is_finished = false
kind_dead is_dead = true
kind_dead is_open = false

-- what making a step gives
pub data Made : Type 0 where
  not_allowed : Made
  long_side : Made
  made : Situation PlaceSet → Made

-- a step of the question that is searched, from a situation
module _ (q : Question) where
  -- "The children of an open one"; a finished one has no moves, so "nothing may follow the finish"
  unfoldable pub allowed : Situation PlaceSet → Move → Bool
  allowed s m = any (same_move m) (moves_of (acceptor q) (kind (acceptor q) s) s)

  -- what a move makes, trimmed
  abbrev pub stepped : Situation PlaceSet → Move → Situation PlaceSet
  stepped s m = trimmed (acceptor q) (moved (acceptor q) s m)

  -- "a dead child is not allowed"
  unfoldable pub alive : Situation PlaceSet → Move → Bool
  alive s m = not (kind_dead (kind (acceptor q) (stepped s m)))

  -- "48 for a step not allowed, 19 for a long side"
  unfoldable pub step_made : Situation PlaceSet → Move → Made
  step_made s m =
      cond (not (allowed s m && alive s m)) not_allowed
      (cond (side_above (acceptor q) longest_side (stepped s m)) long_side (made (stepped s m)))

-- where playing ends: at a refusal, by its number, or at the finish, with the way to it
pub data Played : Type 0 where
  stopped : ℕ → Played
  arrived : Entry (Situation PlaceSet) Move → Played

-- a step that was made goes on behind its record
abbrev pub made_on : (Entry (Situation PlaceSet) Move → List ℕ → Played) → Entry (Situation PlaceSet) Move → Move → List ℕ → Made → Played
made_on go_on e m later not_allowed = stopped 48
made_on go_on e m later long_side = stopped 19
made_on go_on e m later (made t) = go_on (record { at = t; way = m ∷ e.way }) later

module _ (q : Question) where
  -- "49 where the records end before the finish"
  abbrev pub ended : Entry (Situation PlaceSet) Move → Played
  ended e = cond (finished (acceptor q) e.at) (arrived e) (stopped 49)

  -- "47 for one cut short .."
  abbrev pub front_on : (Entry (Situation PlaceSet) Move → List ℕ → Played) → Entry (Situation PlaceSet) Move → Front → Played
  front_on go_on e no_record = stopped 47
  front_on go_on e (front m later) = made_on go_on e m later (step_made q e.at m)

  -- "per record 50 if it is past the 65,534th, 47 .., 48 .., 19 .., then 49": so many records may still come, and the bytes that are left
  abbrev pub play_from : ℕ → Entry (Situation PlaceSet) Move → List ℕ → Played
  play_from zero e [] = ended e
  play_from zero e (b ∷ bytes) = stopped 50
  play_from (suc left) e [] = ended e
  play_from (suc left) e (b ∷ bytes) =
      front_on (λ (f : Entry (Situation PlaceSet) Move) (later : List ℕ). play_from left f later) e
      (front_of q.alphabet.characters (b ∷ bytes))

  -- "The trimmed question", with no moves
  abbrev pub first_entry : Entry (Situation PlaceSet) Move
  first_entry = record { at = question (acceptor q) q.left q.right; way = [] }

pub record Play : Type 0 where
  pub number : ℕ
  pub count : ℕ
  pub place : ℕ
  pub written : ℕ
  pub answer : List ℕ

-- a refusal, which changes nothing: count and place are 0, but for the place of a sheet at fault
abbrev pub play_refused : ℕ → ℕ → List ℕ → Play
play_refused number place answer = record { number = number; count = 0; place = place; written = 0; answer = answer }

-- the answer records, "then 20 for a short answer buffer"
unfoldable pub play_told : List ℕ → List ℕ → Play
play_told bytes answer =
    cond (not (leb (length bytes) (length answer))) (play_refused 20 0 answer)
    (record { number = 0; count = 0; place = 0; written = length bytes; answer = bytes ++ drop (length bytes) answer })

-- what is told of where playing ended; the hidden fields get no record
abbrev pub play_ended : Question → List ℕ → Played → Play
play_ended q answer (stopped n) = play_refused n 0 answer
play_ended q answer (arrived e) = play_told (records_of q (texts_spelt (hidden q) e)) answer

-- "in the player, the sheet's own, then per record .."
abbrev pub play_of : Reading → List ℕ → List ℕ → Play
play_of (refused x at) steps answer = play_refused (fault_number x) at answer
play_of (asked q) steps answer = play_ended q answer (play_from (hidden q) most_steps (first_entry (hidden q)) steps)

unfoldable pub play : List ℕ → List ℕ → List ℕ → Play
play sheet steps answer = play_of (read_sheet sheet) steps answer
