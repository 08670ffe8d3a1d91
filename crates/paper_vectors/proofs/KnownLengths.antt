-- What goes by a length alone, at lengths known by hand and whatever the bytes: the room of a working buffer, a record's two length bytes.
--   rooms_known        : "one situation for each whole 184 bytes of working buffer, and at most 65,535"
--   program_room       : "65,520 bytes of work (356 situations)"
--   length_bytes_known : "length in two bytes (low first)"
-- Follows from the definitions by computation, once the length is put in.
use Prim.Native.Nat.{ℕ}
use mathlib.Core.Path.{◌≡◌}
use mathlib.Core.List.{List, ◌∷◌}
use lib.ListN.{length}
use Rattle.paper.specs.Numbers.{program_work}
use Rattle.paper.specs.Outcome.{room_of, value_record}

-- the room of a working buffer, where it has so many bytes
abbrev Room : List ℕ → ℕ → ℕ → Type 0
Room work bytes room = length work ≡ bytes → room_of work ≡ room

pub rooms_known : (work : List ℕ)
    → Room work 0 0 × Room work 183 0 × Room work 184 1 × Room work 367 1
    × Room work 12058439 65534 × Room work 12058440 65535 × Room work 12058624 65535
unfolding room_of
rooms_known work = (λ e. rw e, λ e. rw e, λ e. rw e, λ e. rw e, λ e. rw e, λ e. rw e, λ e. rw e)

pub program_room : (work : List ℕ) → Room work program_work 356
unfolding room_of
program_room work e = rw e

-- the record of a text, where it has so many characters
abbrev LengthBytes : ℕ → List ℕ → ℕ → ℕ → ℕ → Type 0
LengthBytes f text characters low high = length text ≡ characters → value_record f text ≡ 86 ∷ 65 ∷ f ∷ low ∷ high ∷ text

pub length_bytes_known : (f : ℕ) (text : List ℕ)
    → LengthBytes f text 0 0 0 × LengthBytes f text 255 255 0 × LengthBytes f text 256 0 1
    × LengthBytes f text 300 44 1 × LengthBytes f text 65535 255 255
unfolding value_record
length_bytes_known f text = (λ e. rw e, λ e. rw e, λ e. rw e, λ e. rw e, λ e. rw e)
