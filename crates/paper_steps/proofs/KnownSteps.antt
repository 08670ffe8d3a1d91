-- Known ways: sheets with the buffers lent and all that must come, of the search that writes its way (`steps_met`) and of the player (`plays_met`). The
-- checker computes them. Few, since each edit of the definitions pays for what is computed here.
use Prim.Native.Nat.{ℕ}
use mathlib.Core.Path.{◌≡◌, refl}
use mathlib.Core.List.{List, [], ◌∷◌, ◌++◌, map}
use lib.ListN.{length, drop, replicate}
use Rattle.paper.specs.Places.{set_after, may_end}
use Rattle.paper.specs.Written.{judge}
use Rattle.paper.specs.Search.{enter, offer, take_next, search}
use Rattle.paper.specs.Situation.{trimmed, strike, put_before, open_moves, child_by, children, question}
use Rattle.paper.specs.Way.{search_from, texts_of}
use Rattle.paper.specs.Question.{acceptor}
use Rattle.paper.specs.Alphabet.{code}
use Rattle.paper.specs.Sheet.{marked, pattern_record, side_record, read_end, marked_side, next_is, edition_front, strays_of, read_by, read_sheet}
use Rattle.paper.specs.Outcome.{room_of, searched, standing, value_record, records, clash, count_of, how_of}
use Rattle.paper.proofs.known.KnownSheet.{PA, LE, RI, VA, x, A}
use Rattle.paper_steps.specs.StepsOutcome.{StepsOutcome, with_steps, steps_outcome}
use Rattle.paper_steps.specs.Player.{allowed, alive, step_made, Play, play_told, play}

-- the records of steps
abbrev left_struck : List ℕ
left_struck = 83 ∷ 84 ∷ 0 ∷ []

abbrev right_struck : List ℕ
right_struck = 83 ∷ 84 ∷ 1 ∷ []

abbrev reads : ℕ → List ℕ
reads c = 83 ∷ 84 ∷ 2 ∷ c ∷ []

-- both sides empty: the hidden fields are struck
abbrev empty_sheet : List ℕ
empty_sheet = LE [] ++ RI []

abbrev empty_way : List ℕ
empty_way = left_struck ++ right_struck

-- x and `A`, open: both read `A`, x is struck, then the hidden fields
abbrev x_sheet : List ℕ
x_sheet = LE (x ∷ []) ++ RI (A ∷ [])

abbrev x_way : List ℕ
x_way = reads A ++ left_struck ++ left_struck ++ right_struck

-- a byte that is no token
abbrev fault_sheet : List ℕ
fault_sheet = LE (43 ∷ [])

-- x and `A`, x `A`, and a pattern of field 1, which doesn't stand
abbrev stray_sheet : List ℕ
stray_sheet = PA 0 (A ∷ []) ++ PA 1 (A ∷ []) ++ x_sheet

-- bytes in front of a buffer
abbrev in_front : List ℕ → List ℕ → List ℕ
in_front bytes buffer = bytes ++ drop (length bytes) buffer

-- a sheet, the bytes lent, and what must come
record KnownSteps : Type 0 where
  sheet : List ℕ
  work_bytes : ℕ
  answer_bytes : ℕ
  steps_bytes : ℕ
  number : ℕ
  count : ℕ
  bytes : List ℕ
  way : List ℕ

abbrev lent_work : KnownSteps → List ℕ
lent_work k = replicate k.work_bytes 90

abbrev lent_answer : KnownSteps → List ℕ
lent_answer k = replicate k.answer_bytes 165

abbrev lent_steps : KnownSteps → List ℕ
lent_steps k = replicate k.steps_bytes 77

abbrev steps_got : KnownSteps → StepsOutcome
steps_got k = steps_outcome k.sheet (lent_work k) (lent_answer k) (lent_steps k)

abbrev steps_wanted : KnownSteps → StepsOutcome
steps_wanted k =
    record {
      number = k.number;
      count = k.count;
      place = 0;
      written = length k.bytes;
      step_bytes = length k.way;
      answer = in_front k.bytes (lent_answer k);
      work = replicate k.work_bytes 0;
      steps = in_front k.way (lent_steps k);
    }

abbrev steps_row : List ℕ → ℕ → ℕ → ℕ → ℕ → ℕ → List ℕ → List ℕ → KnownSteps
steps_row s w a t n c b way =
    record { sheet = s; work_bytes = w; answer_bytes = a; steps_bytes = t; number = n; count = c; bytes = b; way = way }

abbrev known_steps : List KnownSteps
known_steps =
    steps_row empty_sheet 920 4 8 0 5 [] empty_way ∷
    -- a byte less than the steps need
    steps_row empty_sheet 920 4 5 51 5 [] [] ∷
    steps_row x_sheet 1840 8 13 0 10 (VA 0 (A ∷ [])) x_way ∷
    -- both buffers too short
    steps_row x_sheet 1840 5 12 20 10 [] [] ∷
    []

pub steps_met : map steps_got known_steps ≡ map steps_wanted known_steps
unfolding set_after may_end judge enter offer take_next search trimmed strike put_before open_moves child_by children question search_from texts_of acceptor marked pattern_record side_record read_end marked_side next_is code edition_front read_by strays_of read_sheet room_of searched standing value_record records clash count_of how_of with_steps steps_outcome
steps_met = refl

-- a sheet, the bytes of steps, the answer bytes lent, and what must come
record KnownPlay : Type 0 where
  sheet : List ℕ
  steps : List ℕ
  answer_bytes : ℕ
  number : ℕ
  place : ℕ
  bytes : List ℕ

abbrev play_lent : KnownPlay → List ℕ
play_lent k = replicate k.answer_bytes 165

abbrev play_got : KnownPlay → Play
play_got k = play k.sheet k.steps (play_lent k)

abbrev play_wanted : KnownPlay → Play
play_wanted k =
    record { number = k.number; count = 0; place = k.place; written = length k.bytes; answer = in_front k.bytes (play_lent k) }

abbrev play_row : List ℕ → List ℕ → ℕ → ℕ → List ℕ → KnownPlay
play_row s t a n b = record { sheet = s; steps = t; answer_bytes = a; number = n; place = 0; bytes = b }

abbrev known_plays : List KnownPlay
known_plays =
    play_row x_sheet x_way 8 0 (VA 0 (A ∷ [])) ∷
    play_row x_sheet x_way 5 20 [] ∷
    play_row empty_sheet empty_way 0 0 [] ∷
    -- no record at all, and one too few
    play_row x_sheet [] 8 49 [] ∷
    play_row empty_sheet left_struck 8 49 [] ∷
    -- cut short, another mark, a kind above 2, a value that is no character
    play_row empty_sheet (left_struck ++ 83 ∷ 84 ∷ []) 8 47 [] ∷
    play_row x_sheet (83 ∷ 84 ∷ 2 ∷ []) 8 47 [] ∷
    play_row empty_sheet (83 ∷ 85 ∷ 0 ∷ []) 8 47 [] ∷
    play_row empty_sheet (83 ∷ 84 ∷ 3 ∷ []) 8 47 [] ∷
    play_row x_sheet (reads 43) 8 47 [] ∷
    -- x may not end yet; the front is a character; a dead child; a record behind the finish
    play_row x_sheet left_struck 8 48 [] ∷
    play_row x_sheet right_struck 8 48 [] ∷
    play_row (LE (A ∷ []) ++ RI []) right_struck 8 48 [] ∷
    play_row empty_sheet (empty_way ++ left_struck) 8 48 [] ∷
    -- 24 times x and `AA`: the second `A` makes a long side
    play_row (LE (replicate 24 x) ++ RI (A ∷ A ∷ [])) (reads A ++ reads A) 8 19 [] ∷
    -- the sheet's own, before anything that is wrong with the steps
    record { sheet = fault_sheet; steps = 0 ∷ []; answer_bytes = 8; number = 17; place = 3; bytes = [] } ∷
    record { sheet = stray_sheet; steps = 0 ∷ []; answer_bytes = 8; number = 22; place = 5; bytes = [] } ∷
    []

pub plays_met : map play_got known_plays ≡ map play_wanted known_plays
unfolding set_after may_end judge trimmed strike put_before open_moves question texts_of acceptor marked pattern_record side_record read_end marked_side next_is code edition_front read_by strays_of read_sheet standing value_record allowed alive step_made play_told play
plays_met = refl
