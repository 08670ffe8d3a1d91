-- How long the sheets and rules are that are written.
--   patterns_length : the records of the patterns of the fields below k, where the others have none: at most 196 bytes each
--   sheet_length    : Sayable q → length (sheet_saying q) ≤ longest_sheet
--   rule_length     : of a good rule's fields and side: length (rule_saying held side) ≤ longest_rule
--   opened_longer   : nothing becomes shorter
-- `ED` and its byte are three, a pattern's code has at most 192 bytes and a side at most 24 tokens. By induction over the fields.
use Prim.Native.Nat.{ℕ, zero, suc, ◌+◌, ◌*◌, ◌≤◌}
use native.Mathlib.Nat.{suc-mul}
use native.Mathlib.Omega.{arith}
use mathlib.Core.Path.{◌≡◌, refl, ap}
use mathlib.Core.Bool.{Bool, cond}
use mathlib.Core.List.{List, [], ◌∷◌, ◌++◌}
use lib.ListN.{length, get_or, length-append, length-map}
use Rattle.paper.specs.Numbers.{fields, rule_fields, pattern_bytes, sheet_side}
use Rattle.paper.specs.Pattern.{Held, some_text, pattern}
use Rattle.paper.specs.Alphabet.{Edition, edition_1, edition_2, edition_of, byte_of}
use Rattle.paper.specs.Equation.{Side}
use Rattle.paper.specs.Question.{Question}
use Rattle.paper.specs.Sheet.{Mark, LE, RI}
use Rattle.paper.specs.Saying.{edition_laid, edition_byte, pattern_code, token_byte, pattern_saying, patterns_saying, side_saying, sheet_saying}
use Rattle.paper.proofs.base.Tests.{cond_by}
use Rattle.paper_laws.proofs.saying.SaidParts.{said_parts}
use Rattle.paper_laws.proofs.saying.Saying.{ShortCode, Sayable}
use Rattle.paper_carry.specs.Opened.{spelt_held, opened, rule_saying}
use Rattle.paper_carry.specs.Spelling.{longest_sheet, longest_rule}

one_length : (e : Edition) (f : ℕ) (h : Held) → ShortCode h → length (pattern_saying e f h) ≤ 4 + pattern_bytes
one_length e f some_text short = omega arith
one_length e f (pattern p) short = omega (arith, length-map (pattern_code p) (byte_of e))

pub patterns_length : (e : Edition) (held : List Held) (f k : ℕ) → ((i : ℕ) → ShortCode (get_or held i some_text))
    → ((i : ℕ) → k ≤ i → get_or held i some_text ≡ some_text) → length (patterns_saying e f held) ≤ k * (4 + pattern_bytes)
patterns_length e [] f k short none = omega arith
patterns_length e (h ∷ held) f zero short none =
    rw (none 0 (omega arith)) (patterns_length e held (suc f) zero (λ i. short (suc i)) (λ i l. none (suc i) (omega arith)))
patterns_length e (h ∷ held) f (suc k) short none =
    let more = patterns_length e held (suc f) k (λ i. short (suc i)) (λ i l. none (suc i) (omega arith)) in
    omega (arith, length-append (pattern_saying e f h) (patterns_saying e (suc f) held), one_length e f h (short 0), suc-mul k (4 + pattern_bytes))

side_length : (e : Edition) (m : Mark) (side : Side) → length side ≤ sheet_side → length (side_saying e m side) ≤ 3 + sheet_side
side_length e m side h = omega (arith, length-map side (token_byte e))

-- `ED` and its byte, or nothing
edition_length : (e : Edition) → length (edition_laid (edition_byte e)) ≤ 3
edition_length edition_1 = omega arith
edition_length edition_2 = omega arith

-- beyond the last field there is none
past_end : (held : List Held) (i : ℕ) → length held ≤ i → get_or held i some_text ≡ some_text
past_end [] i h = refl
past_end (x ∷ held) zero h = absurd (omega arith)
past_end (x ∷ held) (suc i) h = past_end held i (omega arith)

pub sheet_length : (q : Question) → Sayable q → length (sheet_saying q) ≤ longest_sheet
sheet_length q h =
    let e = edition_of q.alphabet in
    let every = h.good.held.each_field in
    let front = edition_laid (edition_byte e) in
    let said = patterns_saying e 0 q.held in
    let left = side_saying e LE q.left in
    let right = side_saying e RI q.right in
    omega (
      arith,
      edition_length e,
      patterns_length e q.held 0 fields h.codes (λ i l. past_end q.held i (omega arith)),
      side_length e LE q.left h.good.left.short,
      side_length e RI q.right h.good.right.short,
      ap length (said_parts q),
      length-append front (said ++ (left ++ right)),
      length-append said (left ++ right),
      length-append left right,
    )

pub rule_length : (held : List Held) (side : Side) → ((i : ℕ) → ShortCode (get_or held i some_text))
    → ((i : ℕ) → rule_fields ≤ i → get_or held i some_text ≡ some_text) → length side ≤ sheet_side → length (rule_saying held side) ≤ longest_rule
rule_length held side short none h =
    omega (
      arith,
      patterns_length edition_1 held 0 rule_fields short none,
      side_length edition_1 LE side h,
      length-append (patterns_saying edition_1 0 held) (side_saying edition_1 LE side),
    )

-- One field's record, and all of them.
field_longer : (e : Edition) (n f : ℕ) (b : Bool) (h : Held) → length (pattern_saying e f h) ≤ length (pattern_saying e f (cond b (spelt_held n h) h))
field_longer e n f b some_text = omega arith
field_longer e n f b (pattern p) =
    cond_by (λ (x : Held). length (pattern_saying e f (pattern p)) ≤ length (pattern_saying e f x)) b (λ _. omega arith) (λ _. omega arith)

pub opened_longer : (e : Edition) (n : ℕ) (stands : ℕ → Bool) (held : List Held) (f : ℕ)
    → length (patterns_saying e f held) ≤ length (patterns_saying e f (opened n stands f held))
opened_longer e n stands [] f = omega arith
opened_longer e n stands (h ∷ held) f =
    let x = cond (stands f) (spelt_held n h) h in
    omega (
      arith,
      opened_longer e n stands held (suc f),
      field_longer e n f (stands f) h,
      length-append (pattern_saying e f h) (patterns_saying e (suc f) held),
      length-append (pattern_saying e f x) (patterns_saying e (suc f) (opened n stands (suc f) held)),
    )
