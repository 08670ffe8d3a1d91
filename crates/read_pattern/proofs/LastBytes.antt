-- The bytes that a call begins with, where the part that is lent says how many are left. Follows from the laws of `drop`.
use Prim.Native.Nat.{ℕ, ◌+◌, ◌-◌, ◌≤◌, ◌<◌}
use native.Mathlib.Omega.{arith}
use mathlib.Core.Path.{◌≡◌, sym, ap, ◌∙◌}
use mathlib.Core.List.{List}
use lib.ListN.{length, get_or, drop, length-drop}
use lib.Seq.{drop-drop, get_or-drop}
use Rattle.std.specs.Prelude.{Result}
use Rattle.read_pattern.specs.Lent.{last_bytes, Begins}
use Rattle.read_pattern.specs.ReadPart.{Working, ReadingOf}
use Rattle.read_pattern.specs.declared.reader.ReadPart.{ReadPart}
use Rattle.read_pattern.proofs.ReadParts.{First, second_within, second_room}

-- The last bytes: how many they are, the first of them, those behind it, and fewer of them.
module _ (s : List ℕ) (left : ℕ) (h : left ≤ length s) where
  pub last_length : length (last_bytes left s) ≡ left
  last_length = length-drop (length s - left) s ∙ omega arith

  pub last_front : get_or (last_bytes left s) 0 0 ≡ get_or s (length s - left) 0
  last_front =
      let e : length s - left + 0 ≡ length s - left = omega arith in
      get_or-drop (length s - left) s 0 0 ∙ ap (λ (n : ℕ). get_or s n 0) e

  last_one : 0 < left → last_bytes (left - 1) s ≡ drop 1 (last_bytes left s)
  last_one k =
      let e : length s - (left - 1) ≡ (length s - left) + 1 = omega arith in
      ap (λ (n : ℕ). drop n s) e ∙ sym (drop-drop 1 (length s - left) s)

  last_fewer : (more : ℕ) → more ≤ left → drop (length (last_bytes left s) - more) (last_bytes left s) ≡ last_bytes more s
  last_fewer more k =
      let l = last_length in
      let e : (length s - left) + (length (last_bytes left s) - more) ≡ length s - more = omega arith in
      drop-drop (length (last_bytes left s) - more) (length s - left) s ∙ ap (λ (n : ℕ). drop n s) e

pub last_all : (s : List ℕ) → last_bytes (length s) s ≡ s
last_all s =
    let e : length s - length s ≡ 0 = omega arith in
    ap (λ (n : ℕ). drop n s) e

module _ {s : List ℕ} {l : ReadPart} (b : Begins s l) (some : 0 < l.left) where
  pub some_last : 0 < length (last_bytes l.left s)
  some_last = rw (last_length s l.left b.within) some

  pub first_part : {w v : Working} (r : Result ReadPart ℕ) → ReadingOf (last_bytes (l.left - 1) s) l.next w v r
      → ReadingOf (drop 1 (last_bytes l.left s)) l.next w v r
  first_part r d = rw (← last_one s l.left b.within some) d

  module _ {w v : Working} {a : ReadPart} (f : First (last_bytes l.left s) l.next w v a) where
    -- the second part begins behind the first
    pub second_less : a.left < l.left
    second_less = omega (arith, second_within f, last_length s l.left b.within)

    pub second_begins : Begins s a
    second_begins =
        record {
          within = omega (arith, second_less, b.within);
          room = omega (arith, second_room f, last_length s l.left b.within, b.room);
        }

    pub second_part : {z : Working} (r : Result ReadPart ℕ) → ReadingOf (last_bytes a.left s) a.next v z r
        → ReadingOf (drop (length (last_bytes l.left s) - a.left) (last_bytes l.left s)) a.next v z r
    second_part r d = let k = second_less in rw (last_fewer s l.left b.within a.left (omega arith)) d
