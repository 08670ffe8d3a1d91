-- Laws of the sets' bytes, four for each mask: storing them, reading them, that they tell the masks.
-- Follows from the laws of rows, of a part that is back and of numbers in bytes.
use Prim.Native.Nat.{ℕ, ◌+◌, ◌-◌, ◌*◌, ◌<◌}
use native.Mathlib.Omega.{arith}
use native.Mathlib.Nat.{add-sub_cancel_left}
use native.Mathlib.Numerals.{add-one}
use mathlib.Core.Path.{◌≡◌, refl, ap, ◌∙◌}
use mathlib.Core.List.{List, [], ◌∷◌, ◌++◌, append-nil}
use lib.ListN.{length, get_or, take, drop}
use lib.Seq.{take-suc, drop-drop, take-length, drop-length, length-take-le}
use borrow.Rule.Slice.PartMut.{put_mid}
use Rattle.paper.specs.Lists.{each}
use Rattle.paper.proofs.base.Lists.{cons_eq}
use Rattle.search_slots.specs.Slots.{mask_width, mask_bytes}
use Rattle.search_slots.proofs.numbers.Bytes.{same_number}
use Rattle.search_slots.proofs.Parts.{part_back}
use Rattle.search_slots.proofs.Rows.{each_snoc, length_rows, row_at}

pub length_sets : (ms : List ℕ) → length (each mask_bytes ms) ≡ mask_width * length ms
length_sets ms = length_rows mask_bytes mask_width ms (λ m d. refl)

-- i masks of ms are stored over the front of d
abbrev pub sets_over : ℕ → List ℕ → List ℕ → List ℕ
sets_over i ms d = each mask_bytes (take i ms) ++ drop (mask_width * i) d

pub one_more_set : (i : ℕ) (ms d l ys : List ℕ) → i < length ms → l ≡ sets_over i ms d → ys ≡ mask_bytes (get_or ms i 0) → put_mid (mask_width * i) (mask_width * i + mask_width - mask_width * i) l ys ≡ sets_over (i + 1) ms d
one_more_set i ms d l ys h e b =
    let at = mask_width * i in
    let p : length (each mask_bytes (take i ms)) ≡ at =
    length_sets (take i ms) ∙ ap (λ (n : ℕ). mask_width * n) (length-take-le i ms (omega arith)) in
    let m : mask_width * (i + 1) ≡ at + mask_width = omega arith in
    part_back (each mask_bytes (take i ms)) (drop at d) ys at (at + mask_width - at) e p
    ∙ rw (add-sub_cancel_left at mask_width, m, drop-drop mask_width at d, b, add-one i, take-suc ms i 0 h, each_snoc mask_bytes (take i ms) (get_or ms i 0))

pub all_sets : (i : ℕ) (ms d : List ℕ) → i ≡ length ms → length d ≡ mask_width * length ms → sets_over i ms d ≡ each mask_bytes ms
all_sets i ms d e n =
    let k : mask_width * i ≡ length d = omega arith in
    rw (k, drop-length d, e, take-length ms) (append-nil (each mask_bytes ms))

-- the bytes of the mask with the number i, as a range of the code has them
pub set_part : (i : ℕ) (ms l : List ℕ) → i < length ms → l ≡ each mask_bytes ms → take (mask_width * i + mask_width - mask_width * i) (drop (mask_width * i) l) ≡ mask_bytes (get_or ms i 0)
set_part i ms l h e =
    rw (add-sub_cancel_left (mask_width * i) mask_width, e) (row_at mask_bytes mask_width ms i 0 (λ m d. refl) h)

-- masks with the same bytes are the same
pub same_masks : (l m : List ℕ) → each mask_bytes l ≡ each mask_bytes m → l ≡ m
same_masks [] [] e = refl
same_masks [] (y ∷ m) e = let z : ◌≡◌ {A = ℕ} 0 1 = cc in absurd (omega arith)
same_masks (x ∷ l) [] e = let z : ◌≡◌ {A = ℕ} 0 1 = cc in absurd (omega arith)
same_masks (x ∷ l) (y ∷ m) e =
    let r = same_number (mask_width - 1) x y (each mask_bytes l) (each mask_bytes m) e in cons_eq r.0 (same_masks l m r.1)
