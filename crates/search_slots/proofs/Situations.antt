-- The slot of a situation that a struct can hold: its length, its parts, and that its key tells the situation.
-- Follows from the laws of keys and of comparing.
use Prim.Native.Nat.{ℕ, ◌≤◌}
use native.Mathlib.Omega.{arith}
use mathlib.Core.Path.{◌≡◌, refl, sym, ap, ◌∙◌}
use mathlib.Core.Bool.{true}
use mathlib.Core.List.{List, [], ◌++◌}
use lib.Dec.{eqb}
use lib.ListN.{length, length-append, length-replicate}
use lib.Seq.{take_at, drop_at}
use Rattle.paper.specs.Lists.{each, same_by}
use Rattle.paper.specs.Numbers.{longest_side}
use Rattle.paper.proofs.base.Tests.{and_left, and_right, both_true, same_tests}
use Rattle.base_codes.specs.Inner.{padded}
use Rattle.base_codes.specs.Coded.{Coded, same_coded, denoted, as_struct, Short}
use Rattle.search_slots.specs.Slots.{mask_bytes, origin_width, origin_bytes, held_bytes, Slot, slot_bytes, part, key, key_bytes, right_at, sets_at, sets_bytes}
use Rattle.base_codes.proofs.Denoted.{denoted_laid}
use Rattle.search_slots.proofs.Sets.{same_masks}
use Rattle.search_slots.proofs.Compared.{bytes_equal, equal_bytes}
use Rattle.search_slots.proofs.Keys.{Sized, length_key, left_part, right_part, sets_part}

-- The test of situations is equality.
pub same_coded_equal : (a b : Coded) → same_coded a b ≡ true → a ≡ b
same_coded_equal a b t =
    let l = bytes_equal a.left b.left (and_left _ _ t) in
    let u = and_right (same_by eqb a.left b.left) _ t in
    let r = bytes_equal a.right b.right (and_left _ _ u) in
    let s = bytes_equal a.sets b.sets (and_right (same_by eqb a.right b.right) _ u) in
    λ i. record { left = l i; right = r i; sets = s i }

pub equal_same_coded : (a : Coded) → same_coded a a ≡ true
equal_same_coded a =
    both_true (equal_bytes a.left a.left refl)
    (both_true (equal_bytes a.right a.right refl) (equal_bytes a.sets a.sets refl))

padded_length : (side : List ℕ) → length side ≤ longest_side → length (padded side) ≡ longest_side
padded_length side h = rw (length-append, length-replicate) (omega arith)

pub short_sized : {k : Coded} → Short k → Sized (as_struct k)
short_sized {k} h =
    record { left = padded_length k.left h.left; right = padded_length k.right h.right; sets = h.sets }

pub short_key : {k : Coded} → Short k → length (key k) ≡ key_bytes
short_key {k} h = length_key (as_struct k) (short_sized h)

pub length_slot_bytes : (x : Slot) → Short x.at → length (slot_bytes x) ≡ held_bytes
length_slot_bytes x h = rw (length-append (key x.at) (origin_bytes x.parent x.step), short_key h)

-- the parts of a slot's bytes
module _ (x : Slot) (h : Short x.at) (l : List ℕ) (e : l ≡ slot_bytes x) where
  pub left_read : part 0 longest_side l ≡ padded x.at.left
  left_read = rw e (left_part (as_struct x.at) (short_sized h) (origin_bytes x.parent x.step))

  pub right_read : part right_at longest_side l ≡ padded x.at.right
  right_read = rw e (right_part (as_struct x.at) (short_sized h) (origin_bytes x.parent x.step))

  pub sets_read : part sets_at sets_bytes l ≡ each mask_bytes x.at.sets
  sets_read = rw e (sets_part (as_struct x.at) (short_sized h) (origin_bytes x.parent x.step))

  pub origin_read : part key_bytes origin_width l ≡ origin_bytes x.parent x.step
  origin_read = rw (e, drop_at (key x.at) (origin_bytes x.parent x.step) key_bytes (short_key h))

  pub key_read : part 0 key_bytes l ≡ key x.at
  key_read = rw e (take_at (key x.at) (origin_bytes x.parent x.step) key_bytes (short_key h))

-- A key tells the situation.
pub key_tells : (a b : Coded) → key a ≡ key b → Short a → Short b → a ≡ b
key_tells a b e h k =
    let f : key a ++ [] ≡ key b ++ [] = ap (λ (l : List ℕ). l ++ []) e in
    let l : padded a.left ≡ padded b.left =
    sym (left_part (as_struct a) (short_sized h) []) ∙ ap (part 0 longest_side) f ∙ left_part (as_struct b) (short_sized k) [] in
    let r : padded a.right ≡ padded b.right =
    sym (right_part (as_struct a) (short_sized h) []) ∙ ap (part right_at longest_side) f ∙ right_part (as_struct b) (short_sized k) [] in
    let s : a.sets ≡ b.sets =
    same_masks a.sets b.sets
    (sym (sets_part (as_struct a) (short_sized h) []) ∙ ap (part sets_at sets_bytes) f ∙ sets_part (as_struct b) (short_sized k) []) in
    let laid : as_struct a ≡ as_struct b = λ i. record { left = l i; right = r i; sets = s i } in
    sym (denoted_laid a h) ∙ ap denoted laid ∙ denoted_laid b k

-- Comparing the keys of two situations is comparing the situations.
pub keys_compared : (a b : Coded) → Short a → Short b → same_by eqb (key a) (key b) ≡ same_coded a b
keys_compared a b h k =
    same_tests (same_by eqb (key a) (key b)) (same_coded a b)
    (λ t. rw (key_tells a b (bytes_equal (key a) (key b) t) h k) (equal_same_coded b))
    (λ t. equal_bytes (key a) (key b) (ap key (same_coded_equal a b t)))
