-- The buffer where slot n is written and linked into bucket b: the slot's bytes, the link to the next older slot of its bucket, the link to
-- it, and every other byte as it was. Follows from the laws of parts.
use Prim.Native.Nat.{ℕ, ◌+◌, ◌-◌, ◌*◌, ◌≤◌, ◌<◌}
use native.Mathlib.Omega.{arith}
use mathlib.Core.Path.{◌≡◌, sym, ap, ◌∙◌}
use mathlib.Core.List.{List}
use lib.ListN.{length, get_or, take, drop}
use borrow.Rule.Slice.PartMut.{put_mid, same_len_mid, mid_len}
use Rattle.paper.specs.Numbers.{situation_bytes}
use Rattle.search_slots.specs.LowFirst.{low_first_number}
use Rattle.search_buckets.specs.Buckets.{older_at, newest_at, link, LinksPut}
use Rattle.search_slots.specs.Slots.{number_width, held_bytes, slot_part}
use Rattle.search_slots.proofs.Parts.{part_same, put_at, put_outside}

pub record SlotPut (work work' : List ℕ) (n b : ℕ) (bytes : List ℕ) : Type 0 where
  pub same_length : length work' ≡ length work
  pub slot : slot_part work' n ≡ bytes
  pub older : link work' (situation_bytes * n + older_at) ≡ link work (situation_bytes * b + newest_at)
  pub newest_is : link work' (situation_bytes * b + newest_at) ≡ n + 1
  pub others : (j : ℕ) → (situation_bytes * n ≤ j → j < situation_bytes * n + newest_at → ⊥)
      → (j ≡ situation_bytes * b + newest_at → ⊥) → (j ≡ situation_bytes * b + newest_at + 1 → ⊥) → get_or work' j 0 ≡ get_or work j 0

module _ {work work' bytes : List ℕ} {n b : ℕ} (p : SlotPut work work' n b bytes) where
  abbrev put_link : ℕ
  put_link = situation_bytes * b + newest_at

  -- the slots before, and their links
  pub slot_kept : (i : ℕ) → i < n → slot_part work' i ≡ slot_part work i
  slot_kept i h =
      let at = situation_bytes * i in
      part_same 0 at held_bytes work' work p.same_length
      (λ (j : ℕ) (c : j < held_bytes).
      p.others (at + j) (λ (f : situation_bytes * n ≤ at + j) _. omega arith) (λ (e : at + j ≡ put_link). omega arith)
      (λ (e : at + j ≡ put_link + 1). omega arith))

  pub older_kept : (i : ℕ) → i < n → link work' (situation_bytes * i + older_at) ≡ link work (situation_bytes * i + older_at)
  older_kept i h =
      let at = situation_bytes * i + older_at in
      ap low_first_number
      (part_same 0 at number_width work' work p.same_length
      (λ (j : ℕ) (c : j < number_width).
      p.others (at + j) (λ (f : situation_bytes * n ≤ at + j) _. omega arith) (λ (e : at + j ≡ put_link). omega arith)
      (λ (e : at + j ≡ put_link + 1). omega arith)))

  -- the links to the newest slots of the other buckets
  pub newest_kept : (c : ℕ) → (c ≡ b → ⊥) → link work' (situation_bytes * c + newest_at) ≡ link work (situation_bytes * c + newest_at)
  newest_kept c d =
      let at = situation_bytes * c + newest_at in
      ap low_first_number
      (part_same 0 at number_width work' work p.same_length
      (λ (j : ℕ) (k : j < number_width).
      p.others (at + j) (λ (f : situation_bytes * n ≤ at + j) (g : at + j < situation_bytes * n + newest_at). omega arith)
      (λ (e : at + j ≡ put_link). d (omega arith)) (λ (e : at + j ≡ put_link + 1). d (omega arith))))

-- Slot n is written, and then the links.
pub slot_put : (work work' bytes : List ℕ) (n b : ℕ) → situation_bytes * (n + 1) ≤ length work → length bytes ≡ held_bytes
    → LinksPut (put_mid (situation_bytes * n) (situation_bytes * n + held_bytes - situation_bytes * n) work bytes) (situation_bytes * n + older_at) (situation_bytes * b + newest_at) n work'
    → SlotPut work work' n b bytes
slot_put work work' bytes n b room long l =
    let at = situation_bytes * n in
    let end = at + held_bytes in
    let put = put_mid at (end - at) work bytes in
    let put_link = situation_bytes * b + newest_at in
    let size : end - at ≡ held_bytes = omega arith in
    let as_long : length put ≡ length work =
    same_len_mid at (end - at) work bytes (long ∙ sym size ∙ sym (mid_len at end work (omega arith))) in
    let outside : (j : ℕ) → (at ≤ j → j < end → ⊥) → get_or put j 0 ≡ get_or work j 0 =
    λ j f. put_outside 0 at end j work bytes (omega arith) (omega arith) (long ∙ sym size) f in
    record {
      same_length = l.same_length ∙ as_long;
      slot = part_same 0 at held_bytes work' put l.same_length
          (λ (j : ℕ) (c : j < held_bytes).
          l.kept (at + j) (λ (e : at + j ≡ at + older_at). omega arith) (λ (e : at + j ≡ at + older_at + 1). omega arith)
          (λ (e : at + j ≡ put_link). omega arith) (λ (e : at + j ≡ put_link + 1). omega arith))
          ∙ ap (λ (m : ℕ). take m (drop at put)) (sym size)
          ∙ put_at at (end - at) work bytes (omega arith) (long ∙ sym size);
      older = l.copied
          ∙ ap low_first_number
          (part_same 0 put_link number_width put work as_long
          (λ (j : ℕ) (c : j < number_width).
          outside (put_link + j) (λ (f : at ≤ put_link + j) (g : put_link + j < end). omega arith)));
      newest_is = l.put;
      others = λ j f p q.
          l.kept j (λ (e : j ≡ at + older_at). f (omega arith) (omega arith)) (λ (e : j ≡ at + older_at + 1). f (omega arith) (omega arith)) p q
          ∙ outside j (λ (g : at ≤ j) (h : j < end). f g (omega arith));
    }
