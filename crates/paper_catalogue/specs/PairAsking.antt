-- How a pair of rules is asked. Adding a rule (request K1) and checking a catalogue again (request K3) are defined over it, and so are their laws:
-- K1 and K3 are the instance by 01's search.
use Rattle.std.specs.Prelude.{ℕ, ◌/◌, ◌%◌, List, [], ◌∷◌}
use Rattle.paper.specs.Places.{PlaceSet}
use Rattle.paper.specs.Search.{End, found, used_up, no_room, too_long}
use Rattle.paper.specs.Situation.{Situation, Move}
use Rattle.paper.specs.Question.{hidden}
use Rattle.paper.specs.Rule.{Rule, pair}
use Rattle.paper.specs.Outcome.{searched, count_of, how_of}

-- what a pair is answered: its answer, the situations entered, and the search that gave it
pub record PairAnswered : Type 0 where
  pub answer : ℕ
  pub count : ℕ
  pub search : ℕ

-- How a pair is asked, a present rule and a new one in a room; and how it is listed: so many bytes, and those behind its two numbers.
pub record PairAsking : Type 0 where
  pub asks : Rule → Rule → ℕ → PairAnswered
  pub pair_bytes : ℕ
  pub bytes_behind : PairAnswered → List ℕ

-- a pair in a list: the lower number, the higher, and what it was answered
abbrev pub record_by : PairAsking → ℕ → ℕ → PairAnswered → List ℕ
record_by a lower higher p = lower ∷ higher ∷ a.bytes_behind p

-- The answer of a pair: "a pair's texts are not written, so it can't give 20".
abbrev pub pair_number : End (Situation PlaceSet) Move → ℕ
pair_number (found e) = 0
pair_number used_up = 1
pair_number no_room = 18
pair_number too_long = 19

-- the pair of a present rule and a new one, searched in a room
unfoldable pub pair_answer : Rule → Rule → ℕ → ℕ
pair_answer present new room = pair_number (how_of (searched (hidden (pair present new)) room))

unfoldable pub pair_count : Rule → Rule → ℕ → ℕ
pair_count present new room = count_of (searched (hidden (pair present new)) room)

-- By 01's search, which is the first. Five bytes a pair: the lower number, the higher, the answer, the count in two bytes (low first).
abbrev pub by_search : PairAsking
by_search =
    record {
      asks = λ (present new : Rule) (room : ℕ). record { answer = pair_answer present new room; count = pair_count present new room; search = 1 };
      pair_bytes = 5;
      bytes_behind = λ (p : PairAnswered). p.answer ∷ p.count % 256 ∷ p.count / 256 ∷ [];
    }
