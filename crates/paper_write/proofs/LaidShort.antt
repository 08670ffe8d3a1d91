-- How long a record is that is laid out, and how far behind its mark a fault is.
--   record_short : a field's record: at most 196 bytes; where it is laid out, its field is known and its bytes are there
--   side_short   : a side's record: at most 27 bytes
--   lengths_known : where all records are laid out, each field that has a pattern is known and its pattern has at most 192 bytes
-- Follows from the checks, test by test.
use Prim.Native.Nat.{ℕ, zero, suc, ◌+◌, ◌≤◌, ◌<◌}
use native.Mathlib.Omega.{arith}
use mathlib.Core.Path.{◌≡◌, refl}
use mathlib.Core.Bool.{false}
use mathlib.Core.List.{List, [], ◌∷◌, ◌++◌}
use lib.Dec.{leb, ltb, eqb}
use lib.ListN.{length, get_or, take, drop, length-map}
use lib.Seq.{length-take-le}
use Rattle.paper.specs.Lists.{all, leading}
use Rattle.paper.specs.Numbers.{fields, pattern_bytes, sheet_side}
use Rattle.paper.specs.Alphabet.{Edition, code, codes}
use Rattle.paper.specs.Written.{Judged, judged, judge}
use Rattle.paper.specs.Written as Written
use Rattle.paper.specs.Sheet.{Mark, LE, RI, is_token}
use Rattle.paper.proofs.base.Tests.{cond_by, leb_false, ltb_true, ltb_false, eqb_true}
use Rattle.paper_laws.proofs.places.Judged.{within_not_one, within_too_many}
use Rattle.paper_write.specs.Laying.{Laying, at_fault, laid_out, judged_laid, record_laid, side_record_laid, then_laid, fields_laid, then_side}
use Rattle.paper_laws.proofs.sheets.FaultPlaces.{leading_below}

-- a field's record
abbrev pub RecordShort : ℕ → ℕ → List ℕ → Laying → Type 0
RecordShort f n patterns (at_fault x at) = at ≤ 4 + pattern_bytes
RecordShort f n patterns (laid_out bytes) = (length bytes ≤ 4 + pattern_bytes) × (f < fields) × (n ≤ length patterns) × (n ≤ pattern_bytes)

module _ (ed : Edition) (f n : ℕ) (patterns : List ℕ) where
  judged_short : f < fields → n ≤ pattern_bytes → n ≤ length patterns → (j : Judged) → judge (codes ed (take n patterns)) ≡ j
      → RecordShort f n patterns (judged_laid j f n (take n patterns))
  judged_short known short there (Written.not_one_pattern i) e =
      omega (arith, within_not_one (codes ed (take n patterns)) i e, length-map (take n patterns) (code ed), length-take-le n patterns there)
  judged_short known short there (Written.too_many_leaves i) e =
      omega (arith, within_too_many (codes ed (take n patterns)) i e, length-map (take n patterns) (code ed), length-take-le n patterns there)
  judged_short known short there (judged p) e = (omega (arith, length-take-le n patterns there), known, there, short)

  pub record_short : RecordShort f n patterns (record_laid ed f n patterns)
  unfolding record_laid
  record_short =
      cond_by (RecordShort f n patterns) (leb fields f) (λ _. omega arith)
      (λ a. cond_by (RecordShort f n patterns) (ltb pattern_bytes n) (λ _. omega arith)
      (λ b. let short = ltb_false pattern_bytes n b in
      cond_by (RecordShort f n patterns) (ltb (length patterns) n)
      (λ c. omega (arith, ltb_true (length patterns) n c))
      (λ c. judged_short (leb_false fields f a) short (ltb_false (length patterns) n c) (judge (codes ed (take n patterns))) refl)))

-- a side's record
abbrev pub SideShort : Laying → Type 0
SideShort (at_fault x at) = at ≤ 3 + sheet_side
SideShort (laid_out bytes) = length bytes ≤ 3 + sheet_side

pub side_short : (ed : Edition) (m : Mark) (tokens : List ℕ) → SideShort (side_record_laid ed m tokens)
unfolding side_record_laid
side_short ed m tokens =
    cond_by SideShort (ltb sheet_side (length tokens)) (λ _. omega arith)
    (λ a. let short = ltb_false sheet_side (length tokens) a in
    cond_by SideShort (all is_token (codes ed tokens)) (λ _. omega arith)
    (λ b. omega (arith, leading_below is_token (codes ed tokens) b, length-map tokens (code ed))))

-- the fields from f on, where they are laid out
abbrev pub LengthsKnown : ℕ → List ℕ → Laying → Type 0
LengthsKnown f lengths (at_fault x at) = Unit {0}
LengthsKnown f lengths (laid_out done) = (i : ℕ) → 0 < get_or lengths i 0 → (f + i < fields) × (get_or lengths i 0 ≤ pattern_bytes)

one_more : (f n : ℕ) (lengths : List ℕ) (w : Laying) → (0 < n → (f < fields) × (n ≤ pattern_bytes)) → LengthsKnown (suc f) lengths w
    → LengthsKnown f (n ∷ lengths) w
one_more f n lengths (at_fault x at) it h = tt
one_more f n lengths (laid_out done) it h = each_one
  where
    each_one : (i : ℕ) → 0 < get_or (n ∷ lengths) i 0 → (f + i < fields) × (get_or (n ∷ lengths) i 0 ≤ pattern_bytes)
    each_one zero k = let (known, short) = it k in (omega arith, short)
    each_one (suc i) k = let (known, short) = h i k in (omega arith, short)

behind_record : (f n : ℕ) (lengths done patterns : List ℕ) (go_on : List ℕ → Laying) (w : Laying) → RecordShort f n patterns w
    → ((more : List ℕ) → LengthsKnown (suc f) lengths (go_on more)) → LengthsKnown f (n ∷ lengths) (then_laid done w go_on)
behind_record f n lengths done patterns go_on (at_fault x at) h next = tt
behind_record f n lengths done patterns go_on (laid_out bytes) h next =
    one_more f n lengths (go_on (done ++ bytes)) (λ _. (h.1, h.3)) (next (done ++ bytes))

module _ (ed : Edition) where
  fields_known : (lengths : List ℕ) (f : ℕ) (done patterns : List ℕ) → LengthsKnown f lengths (fields_laid ed done f lengths patterns)
  fields_known [] f done patterns = λ (i : ℕ) (k : 0 < 0). absurd (omega arith)
  fields_known (n ∷ lengths) f done patterns =
      cond_by (LengthsKnown f (n ∷ lengths)) (eqb n 0)
      (λ z. one_more f n lengths (fields_laid ed done (suc f) lengths patterns) (λ (k : 0 < n). absurd (omega (arith, eqb_true n 0 z)))
      (fields_known lengths (suc f) done patterns))
      (λ _. behind_record f n lengths done patterns (λ (more : List ℕ). fields_laid ed more (suc f) lengths (drop n patterns)) (record_laid ed f n patterns)
      (record_short ed f n patterns) (λ more. fields_known lengths (suc f) more (drop n patterns)))

  module _ (f : ℕ) (lengths : List ℕ) (m : Mark) (tokens : List ℕ) where
    behind_side : (done : List ℕ) (v : Laying) → LengthsKnown f lengths (laid_out done) → LengthsKnown f lengths (then_laid done v laid_out)
    behind_side done (at_fault x at) h = tt
    behind_side done (laid_out bytes) h = h

    side_known : (w : Laying) → LengthsKnown f lengths w → LengthsKnown f lengths (then_side ed m tokens w)
    side_known (at_fault x at) h = tt
    side_known (laid_out done) h = behind_side done (side_record_laid ed m tokens) h

  pub lengths_known : (front lengths patterns left right : List ℕ)
      → LengthsKnown 0 lengths (then_side ed RI right (then_side ed LE left (fields_laid ed front 0 lengths patterns)))
  lengths_known front lengths patterns left right =
      let fields-w = fields_laid ed front 0 lengths patterns in
      side_known 0 lengths RI right (then_side ed LE left fields-w) (side_known 0 lengths LE left fields-w (fields_known lengths 0 front patterns))
