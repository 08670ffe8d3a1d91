-- The whole outcome (document 01): from a sheet, a working buffer and an answer buffer, any lists of bytes, to the number, the
-- count, the place, the bytes written and both buffers afterwards. One definition, for all lists.
use Rattle.std.specs.Prelude.{ℕ, ◌/◌, ◌%◌, min, cond, not, List, ◌∷◌, ◌++◌, leb, length, drop, replicate}
use Rattle.paper.specs.Lists.{upto, keep, each}
use Rattle.paper.specs.Numbers.{fields, longest_side, situation_bytes, most_room}
use Rattle.paper.specs.Places.{PlaceSet}
use Rattle.paper.specs.Search.{Entry, End, found, used_up, no_room, too_long, State, how, count}
use Rattle.paper.specs.Equation.{stands_in}
use Rattle.paper.specs.Situation.{Situation, Move}
use Rattle.paper.specs.Way.{search_from, texts_of}
use Rattle.paper.specs.Question.{Question, hidden, acceptor}
use Rattle.paper.specs.Sheet.{fault_number, Reading, refused, asked, read_sheet}

pub record Outcome : Type 0 where
  pub number : ℕ
  pub count : ℕ
  pub place : ℕ
  pub written : ℕ
  pub answer : List ℕ
  pub work : List ℕ

-- "Room is one situation for each whole 184 bytes of working buffer, and at most 65,535."
unfoldable pub room_of : List ℕ → ℕ
room_of work = min (length work / situation_bytes) most_room

-- the search of a question in a room
unfoldable pub searched : Question → ℕ → State (Situation PlaceSet) Move
searched q room = search_from (acceptor q) longest_side room q.left q.right

-- "for each field standing in the sides, by rising number"; the hidden fields "get no answer record"
unfoldable pub standing : Question → List ℕ
standing q = keep (λ (f : ℕ). stands_in f (q.left ++ q.right)) (upto fields)

-- "`VA`, field byte, length in two bytes (low first), the values"
unfoldable pub value_record : ℕ → List ℕ → List ℕ
value_record f text = 86 ∷ 65 ∷ f ∷ length text % 256 ∷ length text / 256 ∷ text

-- "each record written directly behind the one before"
unfoldable pub records : Question → Entry (Situation PlaceSet) Move → List ℕ
records q e = each (λ (f : ℕ). value_record f (texts_of (acceptor q) q.left q.right e f)) (standing q)

-- "all zero"
abbrev pub cleared : List ℕ → List ℕ
cleared work = replicate (length work) 0

-- an answer of the search that writes no answer byte
abbrev pub without_bytes : ℕ → ℕ → List ℕ → List ℕ → Outcome
without_bytes number count work answer =
    record { number = number; count = count; place = 0; written = 0; answer = answer; work = cleared work }

-- "clash": the records, "the rest unchanged". 20 where they don't fit.
unfoldable pub clash : Question → ℕ → Entry (Situation PlaceSet) Move → List ℕ → List ℕ → Outcome
clash q n e work answer =
    cond (not (leb (length (records q e)) (length answer))) (without_bytes 20 n work answer)
    (record {
      number = 0;
      count = n;
      place = 0;
      written = length (records q e);
      answer = records q e ++ drop (length (records q e)) answer;
      work = cleared work;
    })

-- the answers of the search: 0, 1, 18, 19, 20
abbrev pub answered : Question → ℕ → End (Situation PlaceSet) Move → List ℕ → List ℕ → Outcome
answered q n (found e) work answer = clash q n e work answer
answered q n used_up work answer = without_bytes 1 n work answer
answered q n no_room work answer = without_bytes 18 n work answer
answered q n too_long work answer = without_bytes 19 n work answer

unfoldable pub count_of : State (Situation PlaceSet) Move → ℕ
count_of st = count st

unfoldable pub how_of : State (Situation PlaceSet) Move → End (Situation PlaceSet) Move
how_of st = how st

-- the outcome by what reading the sheet gives: a refused sheet changes no buffer, and of a good one the question with its hidden fields is searched
abbrev pub outcome_of : Reading → List ℕ → List ℕ → Outcome
outcome_of (refused x at) work answer =
    record { number = fault_number x; count = 0; place = at; written = 0; answer = answer; work = work }
outcome_of (asked q) work answer =
    let st = searched (hidden q) (room_of work) in answered (hidden q) (count_of st) (how_of st) work answer

unfoldable pub outcome : List ℕ → List ℕ → List ℕ → Outcome
outcome sheet work answer = outcome_of (read_sheet sheet) work answer
