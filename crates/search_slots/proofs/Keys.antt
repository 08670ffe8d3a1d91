-- Laws of a key, of a struct whose arrays have their lengths: how long it is, that the parts stored one behind the other make it, where
-- its parts stand; and of a slot, stored as key and origin. Follows from the laws of parts.
use Prim.Native.Nat.{ℕ}
use native.Mathlib.Omega.{arith}
use mathlib.Core.Path.{◌≡◌, refl, ◌∙◌}
use mathlib.Core.List.{List, [], ◌∷◌, ◌++◌, append_assoc, append-nil}
use lib.ListN.{length, get_or, drop, set, length-append, length-drop, drop_of_length-le}
use lib.Seq.{take_at, drop-cons, set_at}
use borrow.Rule.Slice.PartMut.{put_mid, post_of}
use Rattle.paper.specs.Lists.{each}
use Rattle.paper.specs.Numbers.{set_fields, longest_side}
use Rattle.base_codes.specs.declared.Situation.{Situation}
use Rattle.search_slots.specs.Slots.{mask_bytes, key_bytes, right_at, sets_at, sets_bytes, held_bytes, number_width, number_bytes, origin_width, origin_bytes, struct_key, part}
use Rattle.search_slots.proofs.Parts.{part_back, part_at}
use Rattle.search_slots.proofs.Sets.{length_sets}

-- the lengths of the struct's arrays
pub record Sized (s : Situation) : Type 0 where
  pub left : length s.left ≡ longest_side
  pub right : length s.right ≡ longest_side
  pub sets : length s.sets ≡ set_fields

module _ (s : Situation) (z : Sized s) where
  to_sets : length (s.left ++ s.right) ≡ sets_at
  to_sets = rw (length-append, z.left, z.right)

  pub length_key : length (struct_key s) ≡ key_bytes
  unfolding struct_key
  length_key = rw (length-append, to_sets, length_sets s.sets, z.sets)

  -- the parts of the key, stored one behind the other
  pub key_stored : (d : List ℕ) → length d ≡ key_bytes → put_mid sets_at sets_bytes (put_mid right_at longest_side (s.left ++ post_of 0 right_at d) s.right) (each mask_bytes s.sets) ≡ struct_key s
  unfolding struct_key
  key_stored d n =
      let after_left = drop right_at d in
      let after-right = drop longest_side after_left in
      let a = part_back s.left after_left s.right right_at longest_side refl z.left in
      let b = part_back (s.left ++ s.right) after-right (each mask_bytes s.sets) sets_at sets_bytes a to_sets in
      let e : drop sets_bytes after-right ≡ [] = drop_of_length-le after-right {i = sets_bytes} (simp length-drop (omega arith)) in
      b ∙ rw e (append-nil (struct_key s))

  -- the parts of the key, whatever stands behind it
  module _ (t : List ℕ) where
    key_rest : struct_key s ++ t ≡ s.left ++ s.right ++ (each mask_bytes s.sets ++ t)
    unfolding struct_key
    key_rest = append_assoc (s.left ++ s.right) (each mask_bytes s.sets) t

    pub left_part : part 0 longest_side (struct_key s ++ t) ≡ s.left
    left_part =
        rw (key_rest, append_assoc) (take_at s.left (s.right ++ (each mask_bytes s.sets ++ t)) longest_side z.left)

    pub right_part : part right_at longest_side (struct_key s ++ t) ≡ s.right
    right_part =
        rw key_rest (part_at s.left s.right (each mask_bytes s.sets ++ t) right_at longest_side z.left z.right)

    pub sets_part : part sets_at sets_bytes (struct_key s ++ t) ≡ each mask_bytes s.sets
    unfolding struct_key
    sets_part =
        part_at (s.left ++ s.right) (each mask_bytes s.sets) t sets_at sets_bytes to_sets (length_sets s.sets ∙ rw z.sets)

-- parent and step, stored one behind the other
pub origin_stored : (parent step : ℕ) (d ps : List ℕ) → length d ≡ origin_width → ps ≡ number_bytes parent → set (ps ++ post_of 0 number_width d) number_width step ≡ origin_bytes parent step
origin_stored parent step d ps n e =
    let last : drop number_width d ≡ get_or d number_width 0 ∷ drop origin_width d = drop-cons d number_width 0 (omega arith) in
    let none : drop origin_width d ≡ [] = drop_of_length-le d {i = origin_width} (omega arith) in
    rw (e, last, none) (set_at (number_bytes parent) (get_or d number_width 0) [] step number_width refl)

-- the parts of a slot, stored one behind the other
pub slot_stored : (k o d ks os : List ℕ) → length d ≡ held_bytes → length k ≡ key_bytes → ks ≡ k → os ≡ o → put_mid key_bytes origin_width (ks ++ post_of 0 key_bytes d) os ≡ k ++ o
slot_stored k o d ks os n m e f =
    let after-key = drop key_bytes d in
    let x : drop origin_width after-key ≡ [] = drop_of_length-le after-key {i = origin_width} (simp length-drop (omega arith)) in
    part_back ks after-key os key_bytes origin_width refl (rw e m) ∙ rw (x, e, f) (append-nil (k ++ o))
