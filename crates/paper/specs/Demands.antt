-- Demands 2 and 3 as statements about any outcome o for a reading, a working buffer and an answer buffer, lists of bytes. A reading is a fault
-- or a question, however it was written; a sheet's is `read_sheet sheet`. That the outcome of 01 (`Outcome.outcome_of`, for a sheet
-- `Outcome.outcome`) meets them, for all lists, is proved in `Demand2` and `Demand3`. What a solution is says `Question.Solution`, which knows
-- of no search.
use Rattle.std.specs.Prelude.{ℕ, ◌≤◌, ◌<◌, ◌≡◌, ◌⊎◌, Bool, true, false, cond, leb, eqb, length, take, drop}
use mathlib.Core.List.{List, [], ◌∷◌, ◌++◌, Memᴰ}
use Rattle.paper.specs.Lists.{each, member}
use Rattle.paper.specs.Numbers.{longest_side, longest_text, most_room}
use Rattle.paper.specs.Places.{PlaceSet, reachable_sets}
use Rattle.paper.specs.Search.{Entry, End, found, used_up, no_room, too_long, entries}
use Rattle.paper.specs.Leads.{situations}
use Rattle.paper.specs.Equation.{chr, fld, Side, Texts, stands_in}
use Rattle.paper.specs.Situation.{Situation, Move, question}
use Rattle.paper.specs.Children.{ChildOf}
use Rattle.paper.specs.Way.{texts_of}
use Rattle.paper.specs.Plain.{plain, plain_bound}
use Rattle.paper.specs.Question.{Question, held_by, Solution, hidden, acceptor}
use Rattle.paper.specs.Sheet.{Fault, Reading, refused, asked}
use Rattle.paper.specs.Outcome.{Outcome, room_of, searched, standing, value_record, how_of}
use Rattle.paper.specs.Buffers.{sheet_numbers}

-- a good reading, and what it asks
abbrev pub Good : Reading → Question → Type 0
Good r q = r ≡ asked q

-- how the search of a question ends, in the room that the working buffer has; of a sheet's question the one with its hidden fields is searched
abbrev pub end_of : Question → List ℕ → End (Situation PlaceSet) Move
end_of q work = how_of (searched q (room_of work))

-- "A field's text is the characters put before it on the way": the texts that the way to an entry spells
abbrev pub texts_spelt : Question → Entry (Situation PlaceSet) Move → Texts
texts_spelt q e = texts_of (acceptor q) q.left q.right e

-- "a text for each field standing in the sides; the texts make both sides the same label and each fits its pattern": the search finds an
-- entry, and the texts are those that its way spells
pub record Solved (r : Reading) (work : List ℕ) : Type 0 where
  pub question : Question
  pub good : Good r question
  pub entry : Entry (Situation PlaceSet) Move
  pub is_found : end_of (hidden question) work ≡ found entry
  pub solution : Solution question (texts_spelt (hidden question) entry)

abbrev pub texts_found : {r : Reading} {work : List ℕ} → Solved r work → Texts
texts_found s = texts_spelt (hidden s.question) s.entry

-- the answer records of texts: for each field standing in the sides, by rising number, one directly behind the other
abbrev pub records_of : Question → Texts → List ℕ
records_of q texts = each (λ (f : ℕ). value_record f (texts f)) (standing q)

-- "Clash carries a text for each field standing in the sides": the first bytes of the answer buffer, as many as are written, are the
-- records of the texts found. No field that stands is left out, and each text has at most 65,534 characters, so that two bytes hold its length.
-- The rest of the buffer is unchanged.
pub record Clash (r : Reading) (work answer : List ℕ) (o : Outcome) : Type 0 where
  pub solved : Solved r work
  pub written : take o.written o.answer ≡ records_of solved.question (texts_found solved)
  pub each_field : (f : ℕ) → stands_in f (solved.question.left ++ solved.question.right) ≡ true → Memᴰ f (standing solved.question)
  pub lengths : (f : ℕ) → Memᴰ f (standing solved.question) → length (texts_found solved f) ≤ longest_text
  pub rest : drop o.written o.answer ≡ drop o.written answer
  pub fits : o.written ≤ length answer
  pub same_length : length o.answer ≡ length answer

-- "no such texts exist, of any length"
pub record NoClash (r : Reading) : Type 0 where
  pub question : Question
  pub good : Good r question
  pub none : (texts : Texts) → Solution question texts → ⊥

-- the situations that the search enters, in their order, in the room that the working buffer has
abbrev pub entered : Question → List ℕ → List (Situation PlaceSet)
entered q work =
    situations
    (entries (searched q (room_of work)))

-- 18, "no room for a situation": all the room is used, and there is none, or a situation entered has a child that is not entered
pub record LeftOut (q : Question) (work : List ℕ) : Type 0 where
  pub parent : Situation PlaceSet
  pub move : Move
  pub left_out : Situation PlaceSet
  pub parent_entered : Memᴰ parent (entered q work)
  pub is_child : ChildOf (acceptor q) parent move left_out
  pub not_entered : Memᴰ left_out (entered q work) → ⊥

pub record NoRoom (r : Reading) (work : List ℕ) (o : Outcome) : Type 0 where
  pub question : Question
  pub good : Good r question
  pub full : o.count ≡ room_of work
  pub left_out : (room_of work ≡ 0) ⊎ LeftOut (hidden question) work

-- 19, "a side above 48 tokens": a situation entered has a child with such a side
pub record TooLong (r : Reading) (work : List ℕ) : Type 0 where
  pub question : Question
  pub good : Good r question
  pub parent : Situation PlaceSet
  pub move : Move
  pub long : Situation PlaceSet
  pub parent_entered : Memᴰ parent (entered (hidden question) work)
  pub is_child : ChildOf (acceptor (hidden question)) parent move long
  pub above : (longest_side < length long.left) ⊎ (longest_side < length long.right)

-- 20, "answer buffer too short": the records of the texts found have more bytes than the buffer
pub record TooShort (r : Reading) (work answer : List ℕ) : Type 0 where
  pub solved : Solved r work
  pub short : length answer < length (records_of solved.question (texts_found solved))

-- the number for each end of the search; where it finds a finished situation, 0 if the records fit into the answer buffer
abbrev pub demanded_number : Question → List ℕ → End (Situation PlaceSet) Move → ℕ
demanded_number q answer (found e) = cond (leb (length (records_of q (texts_spelt (hidden q) e))) (length answer)) 0 20
demanded_number q answer used_up = 1
demanded_number q answer no_room = 18
demanded_number q answer too_long = 19

-- two equal characters in front
abbrev pub equal_characters_in_front : Side → Side → Bool
equal_characters_in_front [] r = false
equal_characters_in_front (fld f ∷ l) r = false
equal_characters_in_front (chr a ∷ l) [] = false
equal_characters_in_front (chr a ∷ l) (fld g ∷ r) = false
equal_characters_in_front (chr a ∷ l) (chr b ∷ r) = eqb a b

-- "Refusals 18, 19, 20 come exactly where 01's search order says, and otherwise a good sheet gets clash or no clash, with the count of that
-- order": the number is that of the search's end, the count that of the situations entered, of which the trimmed question is the first. Each is
-- trimmed to the last.
pub record InOrder (q : Question) (work answer : List ℕ) (o : Outcome) : Type 0 where
  pub number : o.number ≡ demanded_number q answer (end_of (hidden q) work)
  pub count : o.count ≡ length (entered (hidden q) work)
  pub first :
      0 < room_of work
      → (later : List (Situation PlaceSet)) × (entered (hidden q) work ≡ question (acceptor (hidden q)) (hidden q).left (hidden q).right ∷ later)
  pub all_trimmed : (s : Situation PlaceSet) → Memᴰ s (entered (hidden q) work) → equal_characters_in_front s.left s.right ≡ false

-- Demand 2.
pub record Demand2 (r : Reading) (work answer : List ℕ) (o : Outcome) : Type 0 where
  -- "Clash carries a text for each field standing in the sides; the texts make both sides the same label and each fits its pattern."
  pub clash : o.number ≡ 0 → Clash r work answer o
  -- "No clash is given only if no such texts exist, of any length."
  pub no_clash : o.number ≡ 1 → NoClash r
  -- "Refusals 18, 19, 20 come exactly where 01's search order says, and otherwise a good sheet gets clash or no clash, with the
  -- count of that order."
  pub in_order : (q : Question) → Good r q → InOrder q work answer o
  pub good_number : (q : Question) → Good r q → member o.number (0 ∷ 1 ∷ 18 ∷ 19 ∷ 20 ∷ []) ≡ true
  -- Giving up is neither clash nor no clash: what each refusal of the search says.
  pub no_room : o.number ≡ 18 → NoRoom r work o
  pub too_long : o.number ≡ 19 → TooLong r work
  pub too_short : o.number ≡ 20 → TooShort r work answer
  -- A reading that is not good gets none of these numbers, and no situation is entered.
  pub not_good : (x : Fault) (at : ℕ) → r ≡ refused x at → (member o.number sheet_numbers ≡ true) × (o.count ≡ 0)
  -- Whatever the reading, the count is never above the room.
  pub count_within : o.count ≤ room_of work

-- "(1 + L) times (1 + R)": "L adds, over the left side, one for each character and, for each field, the number of its reachable place
-- sets; R does so for the right side." "L and R each include 2 for the hidden field".
abbrev pub bound_of : Question → ℕ
bound_of q = plain_bound (λ (f : ℕ). reachable_sets q.alphabet.characters (held_by (hidden q) f)) (hidden q).left (hidden q).right

-- Demand 3.
pub record Demand3 (r : Reading) (work : List ℕ) (o : Outcome) : Type 0 where
  -- "If no field of a good sheet stands more than once in the two sides together, the count is at most (1 + L) times (1 + R)."
  pub bounded : (q : Question) → Good r q → plain q.left q.right ≡ true → o.count ≤ bound_of q
  -- "With working room, as 01 counts it (never above 65,535), for that many situations, the answer for such a sheet is never 18 or 19."
  pub room_counted : room_of work ≤ most_room
  pub enough_room :
      (q : Question) → Good r q → plain q.left q.right ≡ true → bound_of q ≤ room_of work
      → (o.number ≡ 18 → ⊥) × (o.number ≡ 19 → ⊥)
