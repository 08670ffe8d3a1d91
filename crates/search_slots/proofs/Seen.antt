-- What a buffer that holds slots says of its bytes: the parent and the step of each slot, the tokens in front, whether a slot has a
-- situation's key. Follows from the laws of the slot of a situation.
use Prim.Native.Nat.{ℕ, ◌+◌, ◌-◌, ◌*◌, ◌≤◌, ◌<◌}
use native.Mathlib.Omega.{arith}
use native.Mathlib.Nat.{add-zero}
use mathlib.Core.Path.{◌≡◌, refl, sym, ap, ◌∙◌}
use mathlib.Core.Bool.{◌&&◌}
use mathlib.Core.List.{List, [], ◌∷◌, ◌++◌, append-nil}
use lib.Dec.{eqb}
use lib.ListN.{length, get_or, take, drop}
use lib.Seq.{get_or-take, get_or-drop, take-take}
use Rattle.paper.specs.Lists.{same_by}
use Rattle.paper.specs.Numbers.{longest_side, situation_bytes}
use Rattle.base_codes.specs.Inner.{no_token, front, padded}
use Rattle.base_codes.specs.Coded.{Coded, same_coded, finished_coded, as_struct, Short}
use Rattle.base_codes.proofs.Denoted.{denoted_laid}
use Rattle.base_codes.proofs.Tokens.{none_tokens}
use Rattle.search_slots.specs.LowFirst.{low_first_number}
use Rattle.search_slots.specs.Slots.{Slot, slot_at, slot_part, key, key_bytes, held_bytes, right_at, number_width, origin_width, origin_bytes, part, SlotsHeld}
use Rattle.search_slots.proofs.numbers.Bytes.{number_back}
use Rattle.search_slots.proofs.Parts.{part_of_part}
use Rattle.search_slots.proofs.Keys.{left_part, right_part}
use Rattle.search_slots.proofs.Situations.{short_sized, left_read, right_read, key_read, origin_read, keys_compared}

-- At first a buffer holds no slots.
pub holds_none : (work : List ℕ) → SlotsHeld work []
holds_none work =
    record {
      fits = omega arith;
      holds = λ i h. absurd (omega arith);
      short = λ i h. absurd (omega arith);
    }

-- the first byte of a side that stands from the place a on, and the token in front
first_at : (a : ℕ) (l side : List ℕ) → part a longest_side l ≡ side → get_or l a 0 ≡ get_or side 0 0
first_at a l side e =
    ap (λ (n : ℕ). get_or l n 0) (sym (add-zero a))
    ∙ sym (get_or-take longest_side (drop a l) 0 0 (omega arith) ∙ get_or-drop a l 0 0)
    ∙ ap (λ (m : List ℕ). get_or m 0 0) e

padded_front : (side : List ℕ) → get_or (padded side) 0 0 ≡ front side
padded_front [] = refl
padded_front (b ∷ side) = refl

front_at : (a : ℕ) (side l : List ℕ) → part a longest_side l ≡ padded side → get_or l a 0 ≡ front side
front_at a side l e = first_at a l (padded side) e ∙ padded_front side

module _ {work : List ℕ} {ss : List Slot} (h : SlotsHeld work ss) (i : ℕ) (k : i < length ss) where
  abbrev at : ℕ
  at = situation_bytes * i

  abbrev x : Slot
  x = slot_at ss i

  its_part : (a n : ℕ) → a + n ≤ held_bytes → part (at + a) n work ≡ part a n (slot_part work i)
  its_part a n b = sym (part_of_part at held_bytes a n work b)

  front_part : (n : ℕ) → n ≤ held_bytes → part at n work ≡ part 0 n (slot_part work i)
  front_part n b = ap (λ (a : ℕ). part a n work) (sym (add-zero at)) ∙ its_part 0 n (omega arith)

  -- the tokens in front
  pub left_front_held : get_or work at 0 ≡ front x.at.left
  left_front_held =
      front_at at x.at.left work (front_part longest_side (omega arith) ∙ left_read x (h.short i k) (slot_part work i) (h.holds i k))

  pub right_front_held : get_or work (at + right_at) 0 ≡ front x.at.right
  right_front_held =
      front_at (at + right_at) x.at.right work
      (its_part right_at longest_side (omega arith) ∙ right_read x (h.short i k) (slot_part work i) (h.holds i k))

  origin_held : part (at + key_bytes) origin_width work ≡ origin_bytes x.parent x.step
  origin_held =
      its_part key_bytes origin_width (omega arith) ∙ origin_read x (h.short i k) (slot_part work i) (h.holds i k)

  pub parent_held : low_first_number (part (at + key_bytes) number_width work) ≡ x.parent
  parent_held =
      ap low_first_number
      (sym (take-take number_width origin_width (drop (at + key_bytes) work) (omega arith))
      ∙ ap (λ (l : List ℕ). take number_width l) origin_held)
      ∙ number_back (number_width - 1) x.parent

  pub step_held : get_or work (at + key_bytes + number_width) 0 ≡ x.step
  step_held =
      sym
      (get_or-take origin_width (drop (at + key_bytes) work) number_width 0 (omega arith)
      ∙ get_or-drop (at + key_bytes) work number_width 0)
      ∙ ap (λ (l : List ℕ). get_or l number_width 0) origin_held

  -- The slot i has a situation's key exactly if it holds the situation.
  pub slot_is : (c : Coded) → Short c → same_by eqb (part at key_bytes work) (key c) ≡ same_coded x.at c
  slot_is c s =
      rw (front_part key_bytes (omega arith), key_read x (h.short i k) (slot_part work i) (h.holds i k))
      (keys_compared x.at c (h.short i k) s)

-- A situation is finished where its key begins, and its right side begins, with no token.
pub finished_by : (k : Coded) → Short k → (bytes : List ℕ) → bytes ≡ key k
    → finished_coded k ≡ (eqb (get_or bytes 0 0) no_token && eqb (get_or bytes right_at 0) no_token)
finished_by k h bytes e =
    let whole : bytes ≡ key k ++ [] = e ∙ sym (append-nil (key k)) in
    let l : get_or bytes 0 0 ≡ get_or (padded k.left) 0 0 =
    first_at 0 bytes (padded k.left) (ap (part 0 longest_side) whole ∙ left_part (as_struct k) (short_sized h) []) in
    let r : get_or bytes right_at 0 ≡ get_or (padded k.right) 0 0 =
    first_at right_at bytes (padded k.right) (ap (part right_at longest_side) whole ∙ right_part (as_struct k) (short_sized h) []) in
    ap finished_coded (sym (denoted_laid k h))
    ∙ rw (none_tokens (padded k.left) (omega (arith, (short_sized h).left)), none_tokens (padded k.right) (omega (arith, (short_sized h).right)), l, r)
