-- Patterns that a sheet can hold: in every pattern that `judge` yields each leaf takes some character and nothing but characters, and the
-- leaves are not too many.
--   judged_takes  : judge (codes e s) ≡ judged p → leaves_take n p, where the edition e has n characters
--   judged_leaves : judge s ≡ judged p → leaves p ≤ most_leaves
-- So what fits it is over the characters (`fits_over` of `NotStuck`). The offset of a fault is within the bytes, or behind the last where they are
-- not one pattern; where the leaves are too many, there is a byte at it:
--   within_not_one  : judge s ≡ not_one_pattern i → i ≤ length s
--   too_many_inside : judge s ≡ too_many_leaves i → i < length s
-- The byte itself is told apart in `Continued` and `LeafPlace`. Follows from the ways through the reader (`Reader`).
use Prim.Native.Nat.{ℕ, suc, ◌+◌, ◌-◌, ◌≤◌, ◌<◌}
use native.Mathlib.Omega.{arith}
use mathlib.Core.Path.{◌≡◌, refl, sym, subst}
use mathlib.Core.Logic.{⊎_elim}
use mathlib.Core.List.Memᴰ
use mathlib.Core.List.{List, [], ◌∷◌, Memᴰ}
use lib.Dec.{leb}
use lib.ListN.{length, get_or, length-append}
use Rattle.paper.specs.Numbers.{most_characters, most_leaves}
use Rattle.paper.proofs.base.Tests.{and_right, both_true, leb_true, le_leb, eqb_true, eqb_same}
use Rattle.paper.proofs.base.Lists.{mem_cons_by}
use Rattle.paper.proofs.base.Listed.{get_or_mem}
use Rattle.paper.specs.Alphabet.{Edition, alphabet_of, codes}
use Rattle.paper_laws.proofs.sheets.Editions.{code_below}
use Rattle.paper.specs.Pattern.{char, range, Pattern}
use Rattle.paper.specs.Places.{leaves}
use Rattle.paper.specs.Taken.{LeafTakes, leaves_take}
use Rattle.paper.specs.Written.{part, not_one_pattern, too_many_leaves, judged, judge}
use Rattle.paper_laws.proofs.places.Reader.{Operator, is_then, is_or, Reads, a_character, empty_text, a_range, both_parts, starred, shorter}
use Rattle.paper_laws.proofs.places.Reader.{Judges, at_fault, left_over, above_most, as_pattern, judges}

char_takes : (n b : ℕ) → b < n → LeafTakes n (char b)
char_takes n b h = record { some = b; taken = eqb_same b; character = λ c t. let e = eqb_true b c t in omega arith }

pub range_takes : (n lo hi : ℕ) → lo ≤ hi → hi < n → LeafTakes n (range lo hi)
range_takes n lo hi h k =
    record {
      some = hi;
      taken = both_true (le_leb lo hi h) (le_leb hi hi (omega arith));
      character = λ c t. let e = leb_true c hi (and_right (leb lo c) (leb c hi) t) in omega arith;
    }

-- an operator's leaves are those of both patterns
pub both_take : {code : ℕ} {op : Pattern → Pattern → Pattern} (n : ℕ) (a b : Pattern) → Operator code op
    → leaves_take n a → leaves_take n b → leaves_take n (op a b)
both_take n a b is_then h k = (h, k)
both_take n a b is_or h k = (h, k)

pub read_takes : {s starts rest : List ℕ} {p : Pattern} → Reads s (part p starts rest) → leaves_take most_characters p
read_takes (a_character {b = b} h) = char_takes most_characters b h
read_takes empty_text = tt
read_takes (a_range {lo = lo} {hi = hi} h k) = range_takes most_characters lo hi h k
read_takes (both_parts {a = a} {b = b} o d e) = both_take most_characters a b o (read_takes d) (read_takes e)
read_takes (starred d) = read_takes d

-- codes of which each that is a character is below n
abbrev Within : ℕ → List ℕ → Type 0
Within n [] = Unit {0}
Within n (b ∷ s) = (b < most_characters → b < n) × Within n s

codes_within : (e : Edition) (bytes : List ℕ) → Within (alphabet_of e).characters (codes e bytes)
codes_within e [] = tt
codes_within e (b ∷ bytes) = (code_below e b, codes_within e bytes)

-- then the leaves take nothing else
read_within : (n : ℕ) {s starts rest : List ℕ} {p : Pattern} → Reads s (part p starts rest) → Within n s → leaves_take n p × Within n rest
read_within n (a_character {b = b} h) w = (char_takes n b (w.0 h), w.1)
read_within n empty_text w = (tt, w.1)
read_within n (a_range {lo = lo} {hi = hi} h k) w = (range_takes n lo hi h (w.1.1.0 k), w.1.1.1)
read_within n (both_parts {a = a} {b = b} o d e) w =
    let (t, u) = read_within n d w.1 in let (v, x) = read_within n e u in (both_take n a b o t v, x)
read_within n (starred d) w = read_within n d w.1

judged_within : (n : ℕ) {s : List ℕ} {p : Pattern} → Judges s (judged p) → Within n s → leaves_take n p
judged_within n (as_pattern d h) w = (read_within n d w).0

both_judged : {s : List ℕ} {p : Pattern} → Judges s (judged p) → leaves p ≤ most_leaves
both_judged (as_pattern d h) = h

pub judged_takes : (e : Edition) (bytes : List ℕ) {p : Pattern} → judge (codes e bytes) ≡ judged p → leaves_take (alphabet_of e).characters p
judged_takes e bytes h =
    judged_within (alphabet_of e).characters (subst (Judges (codes e bytes)) h (judges (codes e bytes))) (codes_within e bytes)

pub judged_leaves : (s : List ℕ) {p : Pattern} → judge s ≡ judged p → leaves p ≤ most_leaves
judged_leaves s e = both_judged (subst (Judges s) e (judges s))

-- Each leaf has a start (`starts_length`), and there is a byte at it (`starts_inside`).
pub both_leaves : {code : ℕ} {op : Pattern → Pattern → Pattern} (a b : Pattern) → Operator code op → leaves (op a b) ≡ leaves a + leaves b
both_leaves a b is_then = refl
both_leaves a b is_or = refl

pub starts_length : {s starts rest : List ℕ} {p : Pattern} → Reads s (part p starts rest) → length starts ≡ leaves p
starts_length (a_character h) = refl
starts_length empty_text = refl
starts_length (a_range h k) = refl
starts_length (both_parts {starts = starts} {more = more} {a = a} {b = b} o d e) =
    rw (length-append starts more, starts_length d, starts_length e) (sym (both_leaves a b o))
starts_length (starred d) = starts_length d

-- from the byte on one byte is left at least, and no more than there are
abbrev Inside : List ℕ → ℕ → Type 0
Inside s x = (0 < x) × (x ≤ length s)

pub starts_inside : {s starts rest : List ℕ} {p : Pattern} → Reads s (part p starts rest) → (x : ℕ) → Memᴰ x starts → Inside s x
starts_inside {s} (a_character h) = mem_cons_by (Inside s) (omega arith, omega arith) (λ x i. absurd (Memᴰ.not-nil i))
starts_inside {s} empty_text = λ x i. absurd (Memᴰ.not-nil i)
starts_inside {s} (a_range h k) = mem_cons_by (Inside s) (omega arith, omega arith) (λ x i. absurd (Memᴰ.not-nil i))
starts_inside {s} (both_parts {starts = starts} o d e) =
    λ x i. ⊎_elim (λ j. let (low, high) = starts_inside d x j in (low, omega arith))
    (λ j. let (low, high) = starts_inside e x j in (low, omega (arith, shorter d)))
    (Memᴰ.append_cases starts i)
starts_inside {s} (starred d) = λ x i. let (low, high) = starts_inside d x i in (low, omega arith)

-- The offset of a fault.
not_one_within : {s : List ℕ} {i : ℕ} → Judges s (not_one_pattern i) → i ≤ length s
not_one_within (at_fault {left = left} d) = omega arith
not_one_within {s} (left_over {rest = rest} d) = let left = suc (length rest) in let h : length s - left ≤ length s = omega arith in h

pub within_not_one : (s : List ℕ) (i : ℕ) → judge s ≡ not_one_pattern i → i ≤ length s
within_not_one s i e = not_one_within (subst (Judges s) e (judges s))

inside_too_many : {s : List ℕ} {i : ℕ} → Judges s (too_many_leaves i) → i < length s
inside_too_many (above_most {starts = starts} d h) =
    let (low, high) = starts_inside d (get_or starts most_leaves 0) (get_or_mem starts 0 most_leaves (rw (starts_length d) h)) in omega arith

pub too_many_inside : (s : List ℕ) (i : ℕ) → judge s ≡ too_many_leaves i → i < length s
too_many_inside s i e = inside_too_many (subst (Judges s) e (judges s))

pub within_too_many : (s : List ℕ) (i : ℕ) → judge s ≡ too_many_leaves i → i ≤ length s
within_too_many s i e = let h = too_many_inside s i e in omega arith
