-- How a pattern's bytes are read and judged, as relations with a constructor for each way through.
--   reads  : Reads s (read_part n s), if there are as many turns as bytes
--   judges : Judges s (judge s)
-- What is so of every pattern, or of every fault, is an induction on these, with no test in sight. Follows from the reader's tests.
use Prim.Native.Nat.{ℕ, zero, suc, ◌-◌, ◌≤◌, ◌<◌}
use native.Mathlib.Omega.{arith}
use mathlib.Core.Path.{◌≡◌}
use mathlib.Core.Bool.{false, ◌&&◌}
use mathlib.Core.List.{List, [], ◌∷◌, ◌++◌}
use lib.Dec.{leb, ltb, eqb}
use lib.ListN.{length, get_or}
use Rattle.paper.specs.Numbers.{most_characters, empty_code, range_code, then_code, or_code, many_code, most_leaves}
use Rattle.paper.proofs.base.Tests.{cond_by, and_left, and_right, leb_true, leb_false, ltb_true, eqb_true}
use Rattle.paper.specs.Pattern.{char, range, Pattern, leaf, empty, then, either, many}
use Rattle.paper.specs.Places.{leaves}
use Rattle.paper.specs.Written.{Part, no_pattern, part, read_hi, read_range, second_part, two_parts, many_part, read_part}
use Rattle.paper.specs.Written.{Judged, too_many_leaves, judged, judge_part, judge}

-- the code of an operator of two patterns
pub data Operator : ℕ → (Pattern → Pattern → Pattern) → Type 0 where
  is_then : Operator then_code then
  is_or : Operator or_code either

pub data Reads : List ℕ → Part → Type 0 where
  runs_out : Reads [] (no_pattern 0)
  a_character : {b : ℕ} {s : List ℕ} → b < most_characters → Reads (b ∷ s) (part (leaf (char b)) (length (b ∷ s) ∷ []) s)
  empty_text : {s : List ℕ} → Reads (empty_code ∷ s) (part empty [] s)
  lo_missing : Reads (range_code ∷ []) (no_pattern 0)
  lo_wrong : {lo : ℕ} {s : List ℕ} → ltb lo most_characters ≡ false → Reads (range_code ∷ lo ∷ s) (no_pattern (length (lo ∷ s)))
  hi_missing : {lo : ℕ} → lo < most_characters → Reads (range_code ∷ lo ∷ []) (no_pattern 0)
  hi_wrong : {lo hi : ℕ} {s : List ℕ} → lo < most_characters → leb lo hi && ltb hi most_characters ≡ false
      → Reads (range_code ∷ lo ∷ hi ∷ s) (no_pattern (length (hi ∷ s)))
  a_range : {lo hi : ℕ} {s : List ℕ} → lo ≤ hi → hi < most_characters
      → Reads (range_code ∷ lo ∷ hi ∷ s) (part (leaf (range lo hi)) (length (range_code ∷ lo ∷ hi ∷ s) ∷ []) s)
  first_wrong : {code : ℕ} {op : Pattern → Pattern → Pattern} {s : List ℕ} {left : ℕ}
      → Operator code op → Reads s (no_pattern left) → Reads (code ∷ s) (no_pattern left)
  second_wrong : {code : ℕ} {op : Pattern → Pattern → Pattern} {s starts r : List ℕ} {a : Pattern} {left : ℕ}
      → Operator code op → Reads s (part a starts r) → Reads r (no_pattern left) → Reads (code ∷ s) (no_pattern left)
  both_parts : {code : ℕ} {op : Pattern → Pattern → Pattern} {s starts r more rest : List ℕ} {a b : Pattern}
      → Operator code op → Reads s (part a starts r) → Reads r (part b more rest) → Reads (code ∷ s) (part (op a b) (starts ++ more) rest)
  starred_wrong : {s : List ℕ} {left : ℕ} → Reads s (no_pattern left) → Reads (many_code ∷ s) (no_pattern left)
  starred : {s starts rest : List ℕ} {a : Pattern} → Reads s (part a starts rest) → Reads (many_code ∷ s) (part (many a) starts rest)
  no_code : {b : ℕ} {s : List ℕ} → ltb b most_characters ≡ false → eqb b empty_code ≡ false → eqb b range_code ≡ false → eqb b then_code ≡ false
      → eqb b or_code ≡ false → eqb b many_code ≡ false → Reads (b ∷ s) (no_pattern (length (b ∷ s)))

-- every pattern has a byte
pub shorter : {s starts rest : List ℕ} {p : Pattern} → Reads s (part p starts rest) → length rest < length s
shorter (a_character h) = omega arith
shorter empty_text = omega arith
shorter (a_range h k) = omega arith
shorter (both_parts o a b) = omega (arith, shorter a, shorter b)
shorter (starred a) = omega (arith, shorter a)

reads_hi : (lo : ℕ) (s : List ℕ) → lo < most_characters → Reads (range_code ∷ lo ∷ s) (read_hi lo s)
reads_hi lo [] h = hi_missing h
reads_hi lo (hi ∷ s) h =
    cond_by (Reads (range_code ∷ lo ∷ hi ∷ s)) (leb lo hi && ltb hi most_characters)
    (λ e. a_range (leb_true lo hi (and_left (leb lo hi) (ltb hi most_characters) e)) (ltb_true hi most_characters (and_right (leb lo hi) (ltb hi most_characters) e)))
    (hi_wrong h)

reads_range : (s : List ℕ) → Reads (range_code ∷ s) (read_range s)
reads_range [] = lo_missing
reads_range (lo ∷ s) =
    cond_by (Reads (range_code ∷ lo ∷ s)) (ltb lo most_characters) (λ e. reads_hi lo s (ltb_true lo most_characters e)) lo_wrong

reads_second : {code : ℕ} {op : Pattern → Pattern → Pattern} {s starts r : List ℕ} {a : Pattern}
    → Operator code op → Reads s (part a starts r) → (x : Part) → Reads r x → Reads (code ∷ s) (second_part op a starts x)
reads_second o d (no_pattern left) e = second_wrong o d e
reads_second o d (part b more rest) e = both_parts o d e

reads_two : {code : ℕ} {op : Pattern → Pattern → Pattern} (s : List ℕ) (x : Part) (rest : List ℕ → Part)
    → Operator code op → Reads s x → ((r : List ℕ) → length r < length s → Reads r (rest r)) → Reads (code ∷ s) (two_parts op x rest)
reads_two s (no_pattern left) rest o d h = first_wrong o d
reads_two s (part a starts r) rest o d h = reads_second o d (rest r) (h r (shorter d))

reads_many : {s : List ℕ} (x : Part) → Reads s x → Reads (many_code ∷ s) (many_part x)
reads_many (no_pattern left) d = starred_wrong d
reads_many (part a starts rest) d = starred d

-- by the first byte, where the bytes behind it are read, and the shorter ones
by_code : (n b : ℕ) (s : List ℕ) → Reads s (read_part n s) → ((r : List ℕ) → length r < length s → Reads r (read_part n r))
    → Reads (b ∷ s) (read_part (suc n) (b ∷ s))
by_code n b s d rest =
    cond_by (Reads (b ∷ s)) (ltb b most_characters) (λ e. a_character (ltb_true b most_characters e))
    (λ h0. cond_by (Reads (b ∷ s)) (eqb b empty_code) (λ e. rw (eqb_true b empty_code e) empty_text)
    (λ h1. cond_by (Reads (b ∷ s)) (eqb b range_code) (λ e. rw (eqb_true b range_code e) (reads_range s))
    (λ h2. cond_by (Reads (b ∷ s)) (eqb b then_code)
    (λ e. rw (eqb_true b then_code e) (reads_two s (read_part n s) (read_part n) is_then d rest))
    (λ h3. cond_by (Reads (b ∷ s)) (eqb b or_code)
    (λ e. rw (eqb_true b or_code e) (reads_two s (read_part n s) (read_part n) is_or d rest))
    (λ h4. cond_by (Reads (b ∷ s)) (eqb b many_code) (λ e. rw (eqb_true b many_code e) (reads_many (read_part n s) d))
    (no_code h0 h1 h2 h3 h4))))))

pub reads : (n : ℕ) (s : List ℕ) → length s ≤ n → Reads s (read_part n s)
reads zero [] h = runs_out
reads zero (b ∷ s) h = absurd (omega arith)
reads (suc n) [] h = runs_out
reads (suc n) (b ∷ s) h = by_code n b s (reads n s (omega arith)) (λ r (k : length r < length s). reads n r (omega arith))

-- The bytes "judged by themselves, as exactly one pattern that uses them all", with at most 63 leaves.
pub data Judges (s : List ℕ) : Judged → Type 0 where
  at_fault : {left : ℕ} → Reads s (no_pattern left) → Judges s (judge_part (length s) (no_pattern left))
  left_over : {p : Pattern} {starts rest : List ℕ} {b : ℕ} → Reads s (part p starts (b ∷ rest))
      → Judges s (judge_part (length s) (part p starts (b ∷ rest)))
  above_most : {p : Pattern} {starts : List ℕ} → Reads s (part p starts []) → most_leaves < leaves p
      → Judges s (too_many_leaves (length s - get_or starts most_leaves 0))
  as_pattern : {p : Pattern} {starts : List ℕ} → Reads s (part p starts []) → leaves p ≤ most_leaves → Judges s (judged p)

judges_part : (s : List ℕ) (x : Part) → Reads s x → Judges s (judge_part (length s) x)
judges_part s (no_pattern left) d = at_fault d
judges_part s (part p starts []) d =
    cond_by (Judges s) (leb (leaves p) most_leaves) (λ e. as_pattern d (leb_true (leaves p) most_leaves e)) (λ e. above_most d (leb_false (leaves p) most_leaves e))
judges_part s (part p starts (b ∷ rest)) d = left_over d

pub judges : (s : List ℕ) → Judges s (judge s)
unfolding judge
judges s = judges_part s (read_part (length s) s) (reads (length s) s (omega arith))
