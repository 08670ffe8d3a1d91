-- The working buffer: one slot of 184 bytes for each situation entered. A slot's key is what makes two situations the same; behind it
-- stand the number of the parent's slot and the step that made it. What is left of a slot is no business of this file (`Buckets`).
use Rattle.std.specs.Prelude.{ℕ, ◌+◌, ◌*◌, ◌-◌, ◌≤◌, ◌<◌, ◌≡◌, List, [], ◌∷◌, ◌++◌, length, get_or, take, drop}
use Rattle.paper.specs.Lists.{each}
use Rattle.paper.specs.Numbers.{set_fields, longest_side, situation_bytes}
use Rattle.base_codes.specs.Coded.{Coded, as_struct, Short}
use Rattle.base_codes.specs.declared.Situation.{Situation}
use Rattle.search_slots.specs.LowFirst.{low_first}

-- a mask in eight bytes
abbrev pub mask_width : ℕ
mask_width = 8

abbrev pub mask_bytes : ℕ → List ℕ
mask_bytes m = low_first (mask_width - 1) m

-- where the parts of a slot begin: the sides, each in 48 bytes, and the sets
abbrev pub right_at : ℕ
right_at = longest_side

abbrev pub sets_at : ℕ
sets_at = right_at + longest_side

abbrev pub sets_bytes : ℕ
sets_bytes = mask_width * set_fields

abbrev pub key_bytes : ℕ
key_bytes = sets_at + sets_bytes

-- the sides, the sets
unfoldable pub struct_key : Situation → List ℕ
struct_key s = s.left ++ s.right ++ each mask_bytes s.sets

abbrev pub key : Coded → List ℕ
key s = struct_key (as_struct s)

-- behind the key: parent in two bytes, step
abbrev pub number_width : ℕ
number_width = 2

abbrev pub number_bytes : ℕ → List ℕ
number_bytes n = low_first (number_width - 1) n

abbrev pub origin_width : ℕ
origin_width = number_width + 1

abbrev pub origin_bytes : ℕ → ℕ → List ℕ
origin_bytes parent step = number_bytes parent ++ (step ∷ [])

-- what a slot holds of its situation
abbrev pub held_bytes : ℕ
held_bytes = key_bytes + origin_width

-- a situation entered: its parent's number and the step from there (both 0 for the first)
pub record Slot : Type 0 where
  pub at : Coded
  pub parent : ℕ
  pub step : ℕ

abbrev pub slot_bytes : Slot → List ℕ
slot_bytes s = key s.at ++ origin_bytes s.parent s.step

abbrev pub no_slot : Slot
no_slot = record { at = record { left = []; right = []; sets = [] }; parent = 0; step = 0 }

-- the situation in slot k
abbrev pub slot_at : List Slot → ℕ → Slot
slot_at ss k = get_or ss k no_slot

-- the n bytes from the place a on
abbrev pub part : ℕ → ℕ → List ℕ → List ℕ
part a n bytes = take n (drop a bytes)

-- the bytes of the slot with the number i
abbrev pub slot_part : List ℕ → ℕ → List ℕ
slot_part work i = part (situation_bytes * i) held_bytes work

-- the buffer begins with these slots, and each holds a situation that a struct can hold
pub record SlotsHeld (work : List ℕ) (ss : List Slot) : Type 0 where
  pub fits : situation_bytes * length ss ≤ length work
  pub holds : (i : ℕ) → i < length ss → slot_part work i ≡ slot_bytes (slot_at ss i)
  pub short : (i : ℕ) → i < length ss → Short (slot_at ss i).at
