-- Known ways of given texts: sheets with the bytes lent and all that must come. The checker computes them. Few, since each edit of the definitions pays
-- for what is computed here.
use Prim.Native.Nat.{ℕ}
use mathlib.Core.Path.{◌≡◌, refl}
use mathlib.Core.List.{List, [], ◌∷◌, ◌++◌, map}
use lib.ListN.{length, drop, replicate}
use Rattle.paper.specs.Places.{set_after, may_end}
use Rattle.paper.specs.Written.{judge}
use Rattle.paper.specs.Situation.{trimmed, strike, put_before, open_moves, question}
use Rattle.paper.specs.Question.{acceptor}
use Rattle.paper.specs.Alphabet.{code}
use Rattle.paper.specs.Sheet.{marked, pattern_record, side_record, read_end, marked_side, next_is, edition_front, strays_of, read_by, read_sheet}
use Rattle.paper.specs.Outcome.{standing}
use Rattle.paper.proofs.known.KnownSheet.{LE, RI, VA, x, y, A}
use Rattle.paper_steps.specs.Player.{allowed, alive, step_made}
use Rattle.paper_way.specs.TextRecords.{text_front, read_texts}
use Rattle.paper_way.specs.TextSteps.{next_step, spelled}
use Rattle.paper_way.specs.WayOutcome.{Way, way_told, way}

-- the records of steps
abbrev left_struck : List ℕ
left_struck = 83 ∷ 84 ∷ 0 ∷ []

abbrev right_struck : List ℕ
right_struck = 83 ∷ 84 ∷ 1 ∷ []

abbrev reads : ℕ → List ℕ
reads c = 83 ∷ 84 ∷ 2 ∷ c ∷ []

-- x and y, open
abbrev both : List ℕ
both = LE (x ∷ []) ++ RI (y ∷ [])

-- a sheet, the bytes of texts, the bytes of steps lent, and what must come
record KnownWay : Type 0 where
  sheet : List ℕ
  texts : List ℕ
  steps_bytes : ℕ
  number : ℕ
  place : ℕ
  bytes : List ℕ

abbrev lent : KnownWay → List ℕ
lent k = replicate k.steps_bytes 77

abbrev got : KnownWay → Way
got k = way k.sheet k.texts (lent k)

abbrev wanted : KnownWay → Way
wanted k =
    record { number = k.number; count = 0; place = k.place; written = length k.bytes; steps = k.bytes ++ drop (length k.bytes) (lent k) }

abbrev row : List ℕ → List ℕ → ℕ → ℕ → List ℕ → KnownWay
row s t n m b = record { sheet = s; texts = t; steps_bytes = n; number = m; place = 0; bytes = b }

abbrev known_ways : List KnownWay
known_ways =
    -- the left front first; and the left hidden field holds the space that is missing
    row both (VA 0 (A ∷ []) ++ VA 1 (A ∷ [])) 20 0 (reads A ++ left_struck ++ left_struck ++ right_struck ++ right_struck) ∷
    row both (VA 0 (A ∷ []) ++ VA 1 (A ∷ 38 ∷ [])) 20 0 (reads A ++ left_struck ++ reads 38 ++ left_struck ++ right_struck ++ right_struck) ∷
    -- a byte less than the steps need
    row both (VA 0 (A ∷ []) ++ VA 1 (A ∷ [])) 15 51 [] ∷
    -- no record, another field's, a byte behind the last, a value that is no character
    row both [] 20 47 [] ∷
    row both (VA 1 (A ∷ []) ++ VA 0 (A ∷ [])) 20 47 [] ∷
    row both (VA 0 (A ∷ []) ++ VA 1 (A ∷ []) ++ 0 ∷ []) 20 47 [] ∷
    row both (VA 0 (43 ∷ []) ++ VA 1 (43 ∷ [])) 20 47 [] ∷
    -- labels that differ, an open field that is empty
    row both (VA 0 (A ∷ []) ++ VA 1 (11 ∷ [])) 20 48 [] ∷
    row both (VA 0 [] ++ VA 1 []) 20 48 [] ∷
    -- the sheet's own, before anything that is wrong with the records
    record { sheet = LE (43 ∷ []); texts = 0 ∷ []; steps_bytes = 8; number = 17; place = 3; bytes = [] } ∷
    []

pub ways_met : map got known_ways ≡ map wanted known_ways
unfolding set_after may_end judge trimmed strike put_before open_moves question acceptor marked pattern_record side_record read_end marked_side next_is code edition_front read_by strays_of read_sheet standing allowed alive step_made text_front read_texts next_step spelled way_told way
ways_met = refl
