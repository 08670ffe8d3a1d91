-- The small engine (request K9): from a sheet and a bit buffer, any lists of bytes, to the number, the count, the place and the buffer afterwards; and
-- how many bytes a sheet needs. One definition, for all lists.
use Rattle.std.specs.Prelude.{ℕ, ◌+◌, ◌*◌, ◌/◌, Bool, true, false, cond, not, List, leb, length, replicate}
use Rattle.paper.specs.Search.{End, found, used_up, no_room, too_long, how}
use Rattle.paper.specs.Situation.{Move}
use Rattle.paper.specs.Plain.{plain}
use Rattle.paper.specs.Question.{Question, held_by, hidden}
use Rattle.paper.specs.Sheet.{fault_number, Reading, refused, asked, read_sheet}
use Rattle.paper_plain.specs.Standing.{Pair, pairs_of, pairs_searched}

pub record Engine : Type 0 where
  pub number : ℕ
  pub count : ℕ
  pub place : ℕ
  pub bits : List ℕ

-- "one bit for each pair of a left and a right standing": the hidden fields stand too
unfoldable pub bits_of : Question → ℕ
bits_of q = pairs_of (held_by (hidden q)) (hidden q).left (hidden q).right

-- "43 if the bits don't fit"
abbrev pub bits_fit : Question → List ℕ → Bool
bits_fit q bits = leb (bits_of q) (8 * length bits)

-- some pair that the first one leads to is finished
abbrev pub is_found : End Pair Move → Bool
is_found (found e) = true
is_found used_up = false
is_found no_room = false
is_found too_long = false

-- The question clashes, each standing apart. Where no field stands twice that is a clash of the question.
unfoldable pub clashes_apart : Question → Bool
clashes_apart q = is_found (how (pairs_searched (held_by (hidden q)) q.alphabet.characters (hidden q).left (hidden q).right))

-- "It says only clash or no clash": "the bit buffer ends all zero after every answer but the sheet's own refusals"
abbrev pub engine_told : ℕ → List ℕ → Engine
engine_told number bits = record { number = number; count = 0; place = 0; bits = replicate (length bits) 0 }

-- "Refusals: the sheet's own, then 42 if a field stands more than once in the two sides together, then 43 if the bits don't fit"
abbrev pub engine_of : Reading → List ℕ → Engine
engine_of (refused x at) bits = record { number = fault_number x; count = 0; place = at; bits = bits }
engine_of (asked q) bits =
    cond (not (plain q.left q.right)) (engine_told 42 bits)
    (cond (not (bits_fit q bits)) (engine_told 43 bits)
    (cond (clashes_apart q) (engine_told 0 bits) (engine_told 1 bits)))

unfoldable pub engine : List ℕ → List ℕ → Engine
engine sheet bits = engine_of (read_sheet sheet) bits

-- how many bytes a sheet needs: the whole ones that have its bits
pub record Needs : Type 0 where
  pub number : ℕ
  pub place : ℕ
  pub bytes : ℕ

abbrev pub needs_of : Reading → Needs
needs_of (refused x at) = record { number = fault_number x; place = at; bytes = 0 }
needs_of (asked q) =
    cond (not (plain q.left q.right)) (record { number = 42; place = 0; bytes = 0 })
    (record { number = 0; place = 0; bytes = (bits_of q + 7) / 8 })

unfoldable pub needs : List ℕ → Needs
needs sheet = needs_of (read_sheet sheet)
