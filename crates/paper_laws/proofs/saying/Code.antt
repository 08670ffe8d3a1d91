-- A pattern's code ("A pattern is written operator first") and its reading are inverse.
--   read_code   : read_part n (pattern_code p ++ rest) ≡ part p (starts_of p rest) rest, if the leaves take characters and n is not below the code's length
--   code_judged : judge (pattern_code p) ≡ judged p, if besides the leaves are not too many
--   code_one    : if they are, `judge` finds them too many, and no other fault
--   read_says   : Reads s (part p starts rest) → s ≡ pattern_code p ++ rest
--   judged_code : judge s ≡ judged p → pattern_code p ≡ s
--   said_codes  : codes e (bytes_of e (pattern_code p)) ≡ pattern_code p, if the leaves take characters of the edition e
--   judged_bytes : judge (codes e s) ≡ judged p → bytes_of e (pattern_code p) ≡ s
-- The leaves of what is judged take characters and are not too many (`judged_takes`, `judged_leaves` of `Judged`).
-- Follows from the reader's tests, code by code, and from the ways through them (`Reader`).
use Prim.Native.Nat.{ℕ, zero, suc, ◌-◌, ◌≤◌, ◌<◌}
use native.Mathlib.Omega.{arith}
use mathlib.Core.Path.{◌≡◌, refl, sym, ◌∙◌, ap, subst}
use mathlib.Core.Logic.{◌⊎◌, inl, inr}
use mathlib.Core.List.{List, [], ◌∷◌, ◌++◌, append_assoc, append-nil}
use lib.Dec.{leb}
use lib.ListN.{length, get_or, length-append}
use Rattle.paper.specs.Numbers.{most_characters, empty_code, range_code, then_code, or_code, many_code, most_leaves}
use Rattle.paper.proofs.base.Tests.{by_bool, and_left, and_right, both_true, leb_true, le_leb, lt_ltb, eqb_same}
use Rattle.paper.proofs.base.Lists.{cons_eq}
use Rattle.paper.specs.Pattern.{char, range, Pattern, leaf, empty, then, either, many}
use Rattle.paper.specs.Places.{leaves}
use Rattle.paper.specs.Alphabet.{Edition, alphabet_of, codes, bytes_of}
use Rattle.paper_laws.proofs.sheets.Editions.{character, sign, said_below, AllSaid, none_said, more_said, codes_again, byte_again}
use Rattle.paper.specs.Taken.{LeafTakes, leaves_take}
use Rattle.paper.specs.Written.{part, two_parts, read_part, too_many_leaves, judged, judge}
use Rattle.paper.specs.Saying.{pattern_code}
use Rattle.paper_laws.proofs.places.Reader.{Operator, is_then, is_or, Reads, a_character, empty_text, a_range, both_parts, starred}
use Rattle.paper_laws.proofs.places.Reader.{Judges, as_pattern, judges}
use Rattle.paper_laws.proofs.places.Judged.{judged_takes}

-- A leaf that takes characters alone is one of them, or a range of them.
char_within : (n c : ℕ) → LeafTakes n (char c) → c < n
char_within n c h = h.character c (eqb_same c)

range_rises : (n lo hi : ℕ) → LeafTakes n (range lo hi) → lo ≤ hi
range_rises n lo hi h =
    let low = leb_true lo h.some (and_left (leb lo h.some) (leb h.some hi) h.taken) in
    let high = leb_true h.some hi (and_right (leb lo h.some) (leb h.some hi) h.taken) in
    omega arith

range_within : (n lo hi : ℕ) → LeafTakes n (range lo hi) → hi < n
range_within n lo hi h =
    h.character hi (both_true (le_leb lo hi (range_rises n lo hi h)) (le_leb hi hi (omega arith)))

-- how many bytes are left from each leaf on, where `rest` stands behind the pattern's code
abbrev pub starts_of : Pattern → List ℕ → List ℕ
starts_of (leaf l) rest = length (pattern_code (leaf l) ++ rest) ∷ []
starts_of empty rest = []
starts_of (then a b) rest = starts_of a (pattern_code b ++ rest) ++ starts_of b rest
starts_of (either a b) rest = starts_of a (pattern_code b ++ rest) ++ starts_of b rest
starts_of (many a) rest = starts_of a rest

-- The code, and what stands behind it, is read: for an operator of two patterns where that is so of each.
two_read : (op : Pattern → Pattern → Pattern) (a b : Pattern) (n : ℕ) (rest : List ℕ)
    → read_part n (pattern_code a ++ (pattern_code b ++ rest)) ≡ part a (starts_of a (pattern_code b ++ rest)) (pattern_code b ++ rest)
    → read_part n (pattern_code b ++ rest) ≡ part b (starts_of b rest) rest
    → two_parts op (read_part n (pattern_code a ++ pattern_code b ++ rest)) (read_part n)
    ≡ part (op a b) (starts_of a (pattern_code b ++ rest) ++ starts_of b rest) rest
two_read op a b n rest e f = rw (append_assoc (pattern_code a) (pattern_code b) rest, e, f)

pub read_code : (p : Pattern) → leaves_take most_characters p → (n : ℕ) → length (pattern_code p) ≤ n → (rest : List ℕ)
    → read_part n (pattern_code p ++ rest) ≡ part p (starts_of p rest) rest
read_code (leaf (char c)) h zero k rest = absurd (omega arith)
read_code (leaf (char c)) h (suc n) k rest = rw (lt_ltb c most_characters (char_within most_characters c h))
read_code (leaf (range lo hi)) h zero k rest = absurd (omega arith)
read_code (leaf (range lo hi)) h (suc n) k rest =
    let low = range_rises most_characters lo hi h in
    let high = range_within most_characters lo hi h in
    rw (lt_ltb lo most_characters (omega arith), both_true (le_leb lo hi low) (lt_ltb hi most_characters high))
read_code empty h zero k rest = absurd (omega arith)
read_code empty h (suc n) k rest = refl
read_code (then a b) h zero k rest = absurd (omega arith)
read_code (then a b) h (suc n) k rest =
    let sum = length-append (pattern_code a) (pattern_code b) in
    two_read then a b n rest (read_code a h.0 n (omega arith) (pattern_code b ++ rest)) (read_code b h.1 n (omega arith) rest)
read_code (either a b) h zero k rest = absurd (omega arith)
read_code (either a b) h (suc n) k rest =
    let sum = length-append (pattern_code a) (pattern_code b) in
    two_read either a b n rest (read_code a h.0 n (omega arith) (pattern_code b ++ rest)) (read_code b h.1 n (omega arith) rest)
read_code (many a) h zero k rest = absurd (omega arith)
read_code (many a) h (suc n) k rest = rw (read_code a h n (omega arith) rest)

-- What is read is the code of the pattern, and what stands behind it.
pub both_code : {code : ℕ} {op : Pattern → Pattern → Pattern} (a b : Pattern) → Operator code op
    → pattern_code (op a b) ≡ code ∷ pattern_code a ++ pattern_code b
both_code a b is_then = refl
both_code a b is_or = refl

pub read_says : {s starts rest : List ℕ} {p : Pattern} → Reads s (part p starts rest) → s ≡ pattern_code p ++ rest
read_says (a_character h) = refl
read_says empty_text = refl
read_says (a_range h k) = refl
read_says {rest = rest} (both_parts {a = a} {b = b} o d e) =
    rw (both_code a b o, append_assoc (pattern_code a) (pattern_code b) rest, ← read_says e) (cons_eq refl (read_says d))
read_says (starred d) = cons_eq refl (read_says d)

-- The bytes "judged by themselves, as exactly one pattern that uses them all".
module _ (p : Pattern) (h : leaves_take most_characters p) where
  whole : read_part (length (pattern_code p)) (pattern_code p) ≡ part p (starts_of p []) []
  whole = ap (read_part (length (pattern_code p))) (sym (append-nil (pattern_code p))) ∙ read_code p h (length (pattern_code p)) (omega arith) []

  pub code_judged : leaves p ≤ most_leaves → judge (pattern_code p) ≡ judged p
  unfolding judge
  code_judged k = rw (whole, le_leb (leaves p) most_leaves k)

  -- one pattern, however many its leaves are
  pub code_one : (judge (pattern_code p) ≡ judged p) ⊎ ((i : ℕ) × (judge (pattern_code p) ≡ too_many_leaves i))
  unfolding judge
  code_one =
      by_bool (leb (leaves p) most_leaves)
      (λ k. inl (rw (whole, k)))
      (λ k. inr (length (pattern_code p) - get_or (starts_of p []) most_leaves 0, rw (whole, k)))

says_judged : {s : List ℕ} {p : Pattern} → Judges s (judged p) → pattern_code p ≡ s
says_judged {p} (as_pattern d h) = sym (read_says d ∙ append-nil (pattern_code p))

pub judged_code : (s : List ℕ) {p : Pattern} → judge s ≡ judged p → pattern_code p ≡ s
judged_code s e = says_judged (subst (Judges s) e (judges s))

-- In the bytes of an edition.
all_said_append : (e : Edition) (cs ds : List ℕ) → AllSaid e cs → AllSaid e ds → AllSaid e (cs ++ ds)
all_said_append e [] ds none_said k = k
all_said_append e (c ∷ cs) ds (more_said h g) k = more_said h (all_said_append e cs ds g k)

code_said : (e : Edition) (p : Pattern) → leaves_take (alphabet_of e).characters p → AllSaid e (pattern_code p)
code_said e (leaf (char c)) h = more_said (character (char_within (alphabet_of e).characters c h)) none_said
code_said e (leaf (range lo hi)) h =
    let n = (alphabet_of e).characters in
    let low = range_rises n lo hi h in
    let high = range_within n lo hi h in
    more_said (sign {c = range_code} (omega arith) (omega arith)) (more_said (character {c = lo} (omega arith)) (more_said (character {c = hi} high) none_said))
code_said e empty h = more_said (sign {c = empty_code} (omega arith) (omega arith)) none_said
code_said e (then a b) h =
    more_said (sign {c = then_code} (omega arith) (omega arith)) (all_said_append e (pattern_code a) (pattern_code b) (code_said e a h.0) (code_said e b h.1))
code_said e (either a b) h =
    more_said (sign {c = or_code} (omega arith) (omega arith)) (all_said_append e (pattern_code a) (pattern_code b) (code_said e a h.0) (code_said e b h.1))
code_said e (many a) h = more_said (sign {c = many_code} (omega arith) (omega arith)) (code_said e a h)

pub said_codes : (e : Edition) (p : Pattern) → leaves_take (alphabet_of e).characters p → codes e (bytes_of e (pattern_code p)) ≡ pattern_code p
said_codes e p h = codes_again e (pattern_code p) (code_said e p h)

-- Leaves that take no more than n characters take no more than m, where m is not below n.
pub takes_more : (n m : ℕ) → n ≤ m → (p : Pattern) → leaves_take n p → leaves_take m p
takes_more n m k (leaf l) h = record { some = h.some; taken = h.taken; character = λ c t. let b = h.character c t in omega arith }
takes_more n m k empty h = tt
takes_more n m k (then a b) h = (takes_more n m k a h.0, takes_more n m k b h.1)
takes_more n m k (either a b) h = (takes_more n m k a h.0, takes_more n m k b h.1)
takes_more n m k (many a) h = takes_more n m k a h

-- Each code of a pattern that was judged is one that a byte of the edition has, so its bytes are those that were judged.
bytes_again : (e : Edition) (s : List ℕ) → AllSaid e (codes e s) → bytes_of e (codes e s) ≡ s
bytes_again e [] h = refl
bytes_again e (b ∷ s) (more_said h k) = cons_eq (byte_again e b (said_below e h)) (bytes_again e s k)

pub judged_bytes : (e : Edition) (s : List ℕ) {p : Pattern} → judge (codes e s) ≡ judged p → bytes_of e (pattern_code p) ≡ s
judged_bytes e s {p} h =
    let same = judged_code (codes e s) h in
    ap (bytes_of e) same ∙ bytes_again e s (subst (AllSaid e) same (code_said e p (judged_takes e s h)))
