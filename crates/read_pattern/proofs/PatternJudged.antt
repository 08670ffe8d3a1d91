-- From a reading of the bytes, and the tables that it has filled, to what `tables` gives: by cases on how the bytes are judged.
use Prim.Native.Nat.{ℕ, zero, suc, ◌-◌, ◌≤◌, ◌<◌}
use native.Mathlib.Omega.{arith}
use mathlib.Core.Path.{◌≡◌, refl, sym, ap, ap₂, ◌∙◌}
use mathlib.Core.Bool.{Bool, true, cond, ◌&&◌, ◌||◌, or-false, and-true, and-false}
use mathlib.Core.List.{List, [], ◌∷◌}
use lib.Dec.{eqb, eqb-zero-suc}
use lib.Bits.{bit_or}
use lib.ListN.{length, set, replicate}
use Rattle.paper.specs.Numbers.{most_characters, most_leaves}
use Rattle.paper.proofs.base.Tests.{not_true, le_leb, lt_leb}
use Rattle.paper_laws.proofs.places.Parts.{last_within}
use Rattle.paper.specs.Pattern.{Pattern, pattern}
use Rattle.paper.specs.Places.{leaves, takes_empty, may_be_last, ends_at}
use Rattle.paper.specs.Written.{Part, no_pattern, part, read_part, not_one_pattern, too_many_leaves, judged, judge_part, judge}
use Rattle.std.specs.Prelude.{Ok, Err}
use Rattle.base_places.specs.Masks.{places, mask_of, table, follow_masks, taking_mask, taking_masks, last_mask}
use Rattle.read_pattern.specs.Worked.{worked_of}
use Rattle.read_pattern.specs.ReadPart.{Reads, Working, working, Works, ReadAs}
use Rattle.base_places.specs.declared.PlaceTables.{PlaceTables}
use Rattle.read_pattern.specs.declared.reader.ReadPart.{ReadPart}
use Rattle.base_places.proofs.MaskOf.{mask_of_same, mask_of_or, mask_of_cond}
use Rattle.paper_laws.proofs.places.Reader as Reader
use Rattle.paper_laws.proofs.places.Judged.{starts_inside}
use Rattle.read_pattern.proofs.Behind.{fault_within}
use Rattle.read_pattern.proofs.Surplus.{surplus_within}
use Rattle.read_pattern.proofs.Joining.{joins_all}

-- the tables before the first leaf
abbrev pub unworked : Working
unworked = working (replicate places 0) (replicate most_characters 0)

-- the start may be the last one "if the pattern takes the empty text", and it is no leaf
last_at : (p : Pattern) (i : ℕ) → may_be_last p 1 i || (takes_empty p && eqb 0 i) ≡ ends_at (pattern p) i
last_at p zero =
    ap₂ ◌||◌ (not_true (may_be_last p 1 0) (λ (e : may_be_last p 1 0 ≡ true). let w = last_within p 1 0 e in absurd (omega arith)))
    (and-true (takes_empty p))
last_at p (suc i) =
    ap (λ (b : Bool). may_be_last p 1 (suc i) || (takes_empty p && b)) (eqb-zero-suc i)
    ∙ ap (λ (b : Bool). may_be_last p 1 (suc i) || b) (and-false (takes_empty p))
    ∙ or-false (may_be_last p 1 (suc i))

-- No pattern at the front of all the bytes, whatever became of the tables.
module _ (left : ℕ) (v : Working) where
  part_bad : (n : ℕ) (x : Part) → ReadAs x 1 unworked v (Err left) → judge_part n x ≡ not_one_pattern (n - left)
  part_bad n (no_pattern m) h = let same : left ≡ m = cc in rw same
  part_bad n (part p starts rest) h = absurd h

  module _ (s : List ℕ) (h : ReadAs (read_part (length s) s) 1 unworked v (Err left)) where
    pub judge_bad : judge s ≡ not_one_pattern (length s - left)
    unfolding judge
    judge_bad = part_bad (length s) (read_part (length s) s) h

    -- the byte at fault is one of the bytes, or behind the last
    pub fault_inside : left ≤ length s
    fault_inside = part_within (read_part (length s) s) h (Reader.reads (length s) s (omega arith))
      where
        part_within : (x : Part) → ReadAs x 1 unworked v (Err left) → Reader.Reads s x → left ≤ length s
        part_within (no_pattern m) a d = let same : left ≡ m = cc in omega (arith, fault_within d)
        part_within (part p starts rest) a d = absurd a

-- What a reading r of all the bytes says, and the tables v that it has filled.
module _ (r : ReadPart) (v : Working) where
  part_left : (n : ℕ) (x : Part) → ReadAs x 1 unworked v (Ok r) → 0 < r.left → judge_part n x ≡ not_one_pattern (n - r.left)
  part_left n (no_pattern left) h l = absurd (cc)
  part_left n (part p starts []) h l = let e = h.0.left in absurd (omega arith)
  part_left n (part p starts (b ∷ rest)) h l = rw h.0.left

  -- a pattern that uses all the bytes
  record Whole (x : Part) : Type 0 where
    its : Pattern
    starts : List ℕ
    is : x ≡ part its starts []
    reads : Reads its starts [] 1 r
    works : Works its 1 unworked v

  part_whole : (x : Part) → ReadAs x 1 unworked v (Ok r) → r.left ≡ 0 → Whole x
  part_whole (no_pattern left) h l = absurd (cc)
  part_whole (part p starts []) h l = record { its = p; starts = starts; is = refl; reads = h.0; works = h.1 }
  part_whole (part p starts (b ∷ rest)) h l = let e = h.0.left in absurd (omega arith)

  -- its masks, once the start has its followers and may be the last one
  module _ (start w : ℕ) (es : start ≡ mask_of (λ (q : ℕ). eqb 0 q)) (ew : w ≡ cond r.empty start 0) where
    abbrev pub whole_worked : PlaceTables
    whole_worked = record { follow = set v.follow 0 r.first; taking = v.taking; last = bit_or r.last w }

    worked_is : (p : Pattern) {starts : List ℕ} → Reads p starts [] 1 r → Works p 1 unworked v → Ok whole_worked ≡ worked_of (judged p)
    unfolding table follow_masks taking_mask taking_masks last_mask
    worked_is p h k =
        let follow : set v.follow 0 r.first ≡ follow_masks (pattern p) =
        ap₂ (λ (l : List ℕ) (m : ℕ). set l 0 m) (joins_all places k.follow) h.first in
        let last : bit_or r.last w ≡ last_mask (pattern p) =
        ap₂ bit_or h.last
        (ew ∙ ap₂ (λ (b : Bool) (m : ℕ). cond b m 0) h.empty es ∙ mask_of_cond (λ (q : ℕ). eqb 0 q) (takes_empty p))
        ∙ mask_of_or (λ (i : ℕ). may_be_last p 1 i) (λ (i : ℕ). takes_empty p && eqb 0 i)
        ∙ mask_of_same (λ (i : ℕ). may_be_last p 1 i || (takes_empty p && eqb 0 i)) (λ (i : ℕ). ends_at (pattern p) i) (λ i l. last_at p i) in
        rw (follow, joins_all most_characters k.taking, last)

  module _ (s : List ℕ) (h : ReadAs (read_part (length s) s) 1 unworked v (Ok r)) where
    pub judge_left : 0 < r.left → judge s ≡ not_one_pattern (length s - r.left)
    unfolding judge
    judge_left = part_left (length s) (read_part (length s) s) h

    -- the first byte behind it is one of the bytes, or behind the last
    pub left_within : r.left ≤ length s
    left_within = part_within (read_part (length s) s) h (Reader.reads (length s) s (omega arith))
      where
        part_within : (x : Part) → ReadAs x 1 unworked v (Ok r) → Reader.Reads s x → r.left ≤ length s
        part_within (no_pattern left) a d = absurd (cc)
        part_within (part p starts rest) a d = omega (arith, a.0.left, Reader.shorter d)

    module _ (l : r.left ≡ 0) where
      whole : Whole (read_part (length s) s)
      whole = part_whole (read_part (length s) s) h l

      -- so is the leaf for which there is no place
      pub surplus_inside : r.surplus ≤ length s
      surplus_inside =
          let d = rw whole.is at (Reader.reads (length s) s (omega arith)) in
          rw whole.reads.surplus (surplus_within whole.starts (length s) 1 (λ x i. (starts_inside d x i).1))

      pub judge_many : places < r.next → judge s ≡ too_many_leaves (length s - r.surplus)
      unfolding judge
      judge_many k =
          let p = whole.its in
          let n = whole.reads.next in
          rw (whole.is, lt_leb (leaves p) most_leaves (omega arith))
          (ap (λ (m : ℕ). too_many_leaves (length s - m)) (sym whole.reads.surplus))

      pub judge_good : r.next ≤ places → (start w : ℕ) (es : start ≡ mask_of (λ (q : ℕ). eqb 0 q)) (ew : w ≡ cond r.empty start 0)
          → Ok (whole_worked start w es ew) ≡ worked_of (judge s)
      unfolding judge
      judge_good k start w es ew =
          let p = whole.its in
          let n = whole.reads.next in
          rw (whole.is, le_leb (leaves p) most_leaves (omega arith)) (worked_is start w es ew p whole.reads whole.works)
