-- Readings by the first byte: which way through the code reads which pattern. Each law is a way out of the code (`reader`), and says that
-- its reading is that of the bytes (`ReadingOf`). Follows from the definition of the reader (`Written`), and from what is left behind
-- a pattern (`Behind`).
use Prim.Native.Nat.{ℕ, zero, suc, ◌+◌, ◌-◌, ◌≤◌, ◌<◌}
use native.Mathlib.Omega.{arith}
use mathlib.Core.Path.{◌≡◌, refl, sym, ap, ◌∙◌, subst, subst₂}
use mathlib.Core.Bool.{Bool, true, false, cond, ◌&&◌}
use mathlib.Core.List.{List, [], ◌∷◌}
use lib.Dec.{leb, ltb, eqb}
use lib.ListN.{length, get_or, take, drop, length-drop}
use lib.Seq.{take_all, drop-drop}
use Rattle.std.specs.Prelude.{Result, Ok, Err}
use Rattle.paper.specs.Numbers.{most_characters, empty_code, range_code, then_code, or_code, many_code}
use Rattle.paper.specs.Pattern.{takes, char, range, Pattern, leaf, empty, then, either}
use Rattle.paper.specs.Places.{leaves, may_be_first, may_be_last}
use Rattle.paper.specs.Written.{Part, no_pattern, part, read_range, two_parts, read_part}
use Rattle.paper.proofs.base.Tests.{by_bool, same_tests}
use Rattle.paper.proofs.base.Tests.{and_left, and_right, both_true, left_false, right_false}
use Rattle.paper.proofs.base.Tests.{leb_true, le_leb, lt_leb, lt_ltb, le_ltb, eqb_true, eqb_false, eq_eqb, neq_eqb}
use Rattle.base_places.specs.Masks.{places, in_mask}
use Rattle.read_pattern.specs.ReadPart.{Adds, Reads, Working, working, Joins, Works, ReadAs, ReadingOf, Single, LeafRead, Joined, Repeated}
use Rattle.read_pattern.specs.declared.reader.ReadPart.{ReadPart}
use Rattle.paper_laws.proofs.places.Reader as Reader
use Rattle.read_pattern.proofs.Behind.{rest_behind, leaves_within}
use Rattle.read_pattern.proofs.Joining.{joins_none, joins_more, joins_same, joins_linked}

-- A range: the two bytes behind the 65.
pub range_none : (s : List ℕ) → length s < 1 → read_range s ≡ no_pattern 0
range_none [] h = refl
range_none (lo ∷ s) h = absurd (omega arith)

pub range_lo : (s : List ℕ) → 1 ≤ length s → most_characters ≤ get_or s 0 0 → read_range s ≡ no_pattern (length s)
range_lo [] l h = absurd (omega arith)
range_lo (lo ∷ s) l h = rw (le_ltb lo most_characters h)

pub range_short : (s : List ℕ) → 1 ≤ length s → get_or s 0 0 < most_characters → length s < 2 → read_range s ≡ no_pattern 0
range_short [] l h k = absurd (omega arith)
range_short (lo ∷ []) l h k = rw (lt_ltb lo most_characters h)
range_short (lo ∷ hi ∷ s) l h k = absurd (omega arith)

range_hi : (s : List ℕ) → 2 ≤ length s → get_or s 0 0 < most_characters → leb (get_or s 0 0) (get_or s 1 0) && ltb (get_or s 1 0) most_characters ≡ false
    → read_range s ≡ no_pattern (length s - 1)
range_hi [] l h k = absurd (omega arith)
range_hi (lo ∷ []) l h k = absurd (omega arith)
range_hi (lo ∷ hi ∷ s) l h k =
    let e : length (hi ∷ s) ≡ length (lo ∷ hi ∷ s) - 1 = omega arith in
    rw (lt_ltb lo most_characters h, k) (ap no_pattern e)

pub range_falls : (s : List ℕ) → 2 ≤ length s → get_or s 0 0 < most_characters → get_or s 1 0 < get_or s 0 0 → read_range s ≡ no_pattern (length s - 1)
range_falls s l h k = range_hi s l h (left_false (leb (get_or s 0 0) (get_or s 1 0)) (ltb (get_or s 1 0) most_characters) (lt_leb (get_or s 0 0) (get_or s 1 0) k))

pub range_above : (s : List ℕ) → 2 ≤ length s → get_or s 0 0 < most_characters → most_characters ≤ get_or s 1 0 → read_range s ≡ no_pattern (length s - 1)
range_above s l h k = range_hi s l h (right_false (leb (get_or s 0 0) (get_or s 1 0)) (ltb (get_or s 1 0) most_characters) (le_ltb (get_or s 1 0) most_characters k))

pub range_good : (s : List ℕ) → 2 ≤ length s → get_or s 0 0 ≤ get_or s 1 0 → get_or s 1 0 < most_characters
    → read_range s ≡ part (leaf (range (get_or s 0 0) (get_or s 1 0))) (suc (length s) ∷ []) (drop 2 s)
range_good [] l h k = absurd (omega arith)
range_good (lo ∷ []) l h k = absurd (omega arith)
range_good (lo ∷ hi ∷ s) l h k =
    rw (lt_ltb lo most_characters (omega arith), both_true (le_leb lo hi h) (lt_ltb hi most_characters k))

-- The first byte.
abbrev first_byte : List ℕ → ℕ
first_byte s = get_or s 0 0

by_front : (P : Part → Type 0) (s : List ℕ) → 0 < length s
    → ((m : ℕ) → length (drop 1 s) ≤ m → P (read_part (suc m) (first_byte s ∷ drop 1 s)))
    → (n : ℕ) → length s ≤ n → P (read_part n s)
by_front P [] h f n l = absurd (omega arith)
by_front P (b ∷ s) h f zero l = absurd (omega arith)
by_front P (b ∷ s) h f (suc n) l = f n (omega arith)

front_length : (s : List ℕ) → 0 < length s → length (first_byte s ∷ drop 1 s) ≡ length s
front_length [] h = absurd (omega arith)
front_length (b ∷ s) h = refl

-- a part to the end
pub to_end : (k : ℕ) (s : List ℕ) → take (length s - k) (drop k s) ≡ drop k s
to_end k s = take_all (length s - k) (drop k s) (rw (length-drop k s) (omega arith))

-- What a good reading tells: the pattern, where the bytes behind it stand, and what is joined to the tables.
record There (n : ℕ) (s : List ℕ) (o : ℕ) (w v : Working) (a : ReadPart) : Type 0 where
  read : Pattern
  starts : List ℕ
  rest : List ℕ
  is : read_part n s ≡ part read starts rest
  reads : Reads read starts rest o a
  works : Works read o w v
  behind : drop (length s - a.left) s ≡ rest
  within : a.left ≤ length s
  room : a.next + a.left ≤ o + length s

module _ (n : ℕ) (s : List ℕ) (o : ℕ) (w v : Working) (a : ReadPart) where
  good_part : (x : Part) → read_part n s ≡ x → Reader.Reads s x → ReadAs x o w v (Ok a) → There n s o w v a
  good_part (no_pattern left) e d h = absurd (cc)
  good_part (part p starts rest) e d h =
      let left = h.0.left in
      let next = h.0.next in
      let fits = leaves_within d in
      record {
        read = p;
        starts = starts;
        rest = rest;
        is = e;
        reads = h.0;
        works = h.1;
        behind = rw left (rest_behind d);
        within = omega arith;
        room = omega arith;
      }

  good : length s ≤ n → ReadAs (read_part n s) o w v (Ok a) → There n s o w v a
  good k h = good_part (read_part n s) refl (Reader.reads n s k) h

bad : (x : Part) (o : ℕ) (w v : Working) (left : ℕ) → ReadAs x o w v (Err left) → x ≡ no_pattern left
bad (no_pattern m) o w v left h = let same : left ≡ m = cc in ap no_pattern (sym same)
bad (part p starts rest) o w v left h = absurd h

-- a character is the range from itself to itself
char_range : (b c : ℕ) → takes (range b b) c ≡ takes (char b) c
char_range b c =
    same_tests (leb b c && leb c b) (eqb b c)
    (λ e.
    let l = leb_true b c (and_left (leb b c) (leb c b) e) in
    let m = leb_true c b (and_right (leb b c) (leb c b) e) in
    eq_eqb b c (omega arith))
    (λ e. let l = eqb_true b c e in both_true (le_leb b c (omega arith)) (le_leb c b (omega arith)))

-- The two patterns that have no part. No place follows their leaves, so what follows is left as it is.
pub leaf_as : (lo hi first left o : ℕ) (follow taking after : List ℕ) (r : ReadPart) → LeafRead lo hi first left o taking after r
    → (rest : List ℕ) → length rest ≡ left
    → ReadAs (part (leaf (range lo hi)) (first ∷ []) rest) o (working follow taking) (working follow after) (Ok r)
leaf_as lo hi first left o follow taking after r h rest e = (h.reads rest e, record { follow = joins_none places follow; taking = h.takes })

pub empty_as : (left o : ℕ) (follow taking : List ℕ) (r : ReadPart) → Single empty [] left o r
    → (rest : List ℕ) → length rest ≡ left → ReadAs (part empty [] rest) o (working follow taking) (working follow taking) (Ok r)
empty_as left o follow taking r h rest e =
    (h rest e, record { follow = joins_none places follow; taking = joins_none most_characters taking })

char_as : (b o : ℕ) (starts rest : List ℕ) (w v : Working) (r : Result ReadPart ℕ)
    → ReadAs (part (leaf (range b b)) starts rest) o w v r → ReadAs (part (leaf (char b)) starts rest) o w v r
char_as b o starts rest w v (Ok r) h = (
  record { left = h.0.left; each = h.0.each; next = h.0.next; surplus = h.0.surplus; empty = h.0.empty; first = h.0.first; last = h.0.last },
  record {
    follow = h.1.follow;
    taking = joins_same most_characters (λ c q. ap (λ (t : Bool). eqb o q && t) (char_range b c)) h.1.taking;
  },
)
char_as b o starts rest w v (Err left) h = absurd h

-- no byte, no pattern
pub as_nothing : (s : List ℕ) (o : ℕ) (w v : Working) → length s ≡ 0 → ReadingOf s o w v (Err 0)
as_nothing [] o w v h zero l = refl
as_nothing [] o w v h (suc n) l = refl
as_nothing (b ∷ s) o w v h zero l = absurd (omega arith)
as_nothing (b ∷ s) o w v h (suc n) l = absurd (omega arith)

-- A pattern by its first byte: r is a reading of the bytes s.
module _ (s : List ℕ) (o : ℕ) (w v : Working) (r : Result ReadPart ℕ) (h : 0 < length s) where
  abbrev reads_as : Part → Type 0
  reads_as x = ReadAs x o w v r

  read_other : (n : ℕ) (rest : List ℕ) (b : ℕ) → most_characters ≤ b → (b ≡ empty_code → ⊥) → (b ≡ range_code → ⊥)
      → (b ≡ then_code → ⊥) → (b ≡ or_code → ⊥) → (b ≡ many_code → ⊥) → read_part (suc n) (b ∷ rest) ≡ no_pattern (length (b ∷ rest))
  read_other n rest b l e g t o m =
      simp (
        le_ltb b most_characters l,
        neq_eqb b empty_code e,
        neq_eqb b range_code g,
        neq_eqb b then_code t,
        neq_eqb b or_code o,
        neq_eqb b many_code m,
      )

  pub as_char : first_byte s < most_characters
      → reads_as (part (leaf (range (first_byte s) (first_byte s))) (length s ∷ []) (drop 1 s)) → ReadingOf s o w v r
  as_char l f =
      by_front reads_as s h
      (λ m k.
      rw (lt_ltb (first_byte s) most_characters l)
      (subst (λ (n : ℕ). ReadAs (part (leaf (char (first_byte s))) (n ∷ []) (drop 1 s)) o w v r) (sym (front_length s h))
      (char_as (first_byte s) o (length s ∷ []) (drop 1 s) w v r f)))

  pub as_empty : first_byte s ≡ empty_code → reads_as (part empty [] (drop 1 s)) → ReadingOf s o w v r
  as_empty e f = by_front reads_as s h (λ m k. rw e f)

  pub as_range : first_byte s ≡ range_code → reads_as (read_range (drop 1 s)) → ReadingOf s o w v r
  as_range e f = by_front reads_as s h (λ m k. rw e f)

  pub as_none : most_characters ≤ first_byte s → (first_byte s ≡ empty_code → ⊥) → (first_byte s ≡ range_code → ⊥)
      → (first_byte s ≡ then_code → ⊥) → (first_byte s ≡ or_code → ⊥) → (first_byte s ≡ many_code → ⊥)
      → r ≡ Err (length s) → ReadingOf s o w v r
  as_none l e g t o' m z =
      by_front reads_as s h (λ k _. rw (read_other k (drop 1 s) (first_byte s) l e g t o' m, front_length s h) z)

-- With no first part there is no pattern.
no_first : (n : ℕ) (s : List ℕ) (b left : ℕ) → then_code ≤ b → b ≤ many_code → read_part n s ≡ no_pattern left
    → read_part (suc n) (b ∷ s) ≡ no_pattern left
no_first n s b left l m e =
    by_bool (eqb b then_code)
    (λ (t : eqb b then_code ≡ true). let g : b ≡ then_code = eqb_true b then_code t in rw (g, e))
    (λ (t : eqb b then_code ≡ false).
    by_bool (eqb b or_code)
    (λ (v : eqb b or_code ≡ true). let g : b ≡ or_code = eqb_true b or_code v in rw (g, e))
    (λ (v : eqb b or_code ≡ false).
    let i : b ≡ then_code → ⊥ = eqb_false b then_code t in
    let j : b ≡ or_code → ⊥ = eqb_false b or_code v in
    let g : b ≡ many_code = omega arith in
    rw (g, e)))

-- whatever became of the tables
pub as_no_first : (s : List ℕ) {o left : ℕ} {w v : Working} → 0 < length s → ReadingOf (drop 1 s) o w v (Err left) → (z : Working)
    → then_code ≤ first_byte s → first_byte s ≤ many_code → ReadingOf s o w z (Err left)
as_no_first s {o} {left} {w} {v} some reads z l m =
    by_front (λ (x : Part). ReadAs x o w z (Err left)) s some
    (λ n k. rw (no_first n (drop 1 s) (first_byte s) left l m (bad (read_part n (drop 1 s)) o w v left (reads n k))))

-- A pattern with parts: a is the reading of the first part, which stands behind the first byte.
pub record First (s : List ℕ) (o : ℕ) (w v : Working) (a : ReadPart) : Type 0 where
  pub some : 0 < length s
  pub reads : ReadingOf (drop 1 s) o w v (Ok a)

-- the tables once what is first in a part follows what is last in the part before it
pub record Linked (v z : Working) (a c : ReadPart) : Type 0 where
  pub follow : Adds places (λ (i : ℕ). cond (in_mask a.last i) c.first 0) v.follow z.follow
  pub taking : z.taking ≡ v.taking

-- what is first in one part follows what is last in another
links : {v z : Working} {a c : ReadPart} {p q : Pattern} {ls s ms t : List ℕ} {i j : ℕ} → Linked v z a c → Reads p ls s i a → Reads q ms t j c
    → Joins (λ (x y : ℕ). may_be_last p i x && may_be_first q j y) places v.follow z.follow
links {v} {z} {a} {c} {p} {q} {ls} {s} {ms} {t} {i} {j} l x y =
    joins_linked (λ (n : ℕ). may_be_last p i n) (λ (n : ℕ). may_be_first q j n) v.follow z.follow a.last c.first x.last y.first l.follow

module _ {s : List ℕ} {o : ℕ} {w v : Working} {a : ReadPart} (f : First s o w v a) where
  good_first : (n : ℕ) → length (drop 1 s) ≤ n → There n (drop 1 s) o w v a
  good_first n k = good n (drop 1 s) o w v a k (f.reads n k)

  -- where the second part begins, and that its places fit
  pub second_within : a.left < length s
  second_within =
      let w = (good_first (length (drop 1 s)) (omega arith)).within in
      let h = f.some in
      omega (arith, length-drop 1 s)

  pub second_room : a.next + a.left ≤ o + length s
  second_room = let r = (good_first (length (drop 1 s)) (omega arith)).room in omega (arith, length-drop 1 s)

  pub as_many : (z : Working) (r : ReadPart) → first_byte s ≡ many_code → Repeated a r → Linked v z a a → ReadingOf s o w z (Ok r)
  as_many z r e h l =
      by_front (λ (x : Part). ReadAs x o w z (Ok r)) s f.some
      (λ n k.
      let g = good_first n k in
      rw (e, g.is) (
        h g.read g.starts g.rest o g.reads,
        record { follow = joins_more places g.works.follow (links l g.reads g.reads); taking = rw l.taking g.works.taking },
      ))

  -- c is the reading of the second part, which stands behind the first
  second_is : (n : ℕ) (g : There n (drop 1 s) o w v a) → drop (length s - a.left) s ≡ g.rest
  second_is n g =
      let w = g.within in
      let h = f.some in
      let e : length s - a.left ≡ 1 + (length (drop 1 s) - a.left) = omega (arith, length-drop 1 s) in
      ap (λ (k : ℕ). drop k s) e ∙ sym (drop-drop (length (drop 1 s) - a.left) 1 s) ∙ g.behind

  at_second : (z : Working) (c : Result ReadPart ℕ) → ReadingOf (drop (length s - a.left) s) a.next v z c
      → (n : ℕ) → length (drop 1 s) ≤ n → (g : There n (drop 1 s) o w v a) → ReadAs (read_part n g.rest) (o + leaves g.read) v z c
  at_second z c d n k g =
      let e = second_is n g in
      let l = g.reads.left in
      let w = g.within in
      subst₂ (λ (l : List ℕ) (i : ℕ). ReadAs (read_part n l) i v z c) e g.reads.next (d n (omega (arith, ap length e)))

  module _ {z : Working} {c : ReadPart} (d : ReadingOf (drop (length s - a.left) s) a.next v z (Ok c)) where
    as_two : (op : Pattern → Pattern → Pattern) (y : Working) (r : ReadPart) → Joined op a c r
        → ((p q : Pattern) (ls s ms t : List ℕ) → Reads p ls s o a → Reads q ms t (o + leaves p) c → Works p o w v → Works q (o + leaves p) v z → Works (op p q) o w y)
        → (n : ℕ) → length (drop 1 s) ≤ n
        → ReadAs (two_parts op (read_part n (drop 1 s)) (λ (l : List ℕ). read_part n l)) o w y (Ok r)
    as_two op y r h j n k =
        let g = good_first n k in
        let l = g.reads.left in
        let w = g.within in
        let e = good n g.rest (o + leaves g.read) v z c (omega arith) (at_second z (Ok c) d n k g) in
        rw (g.is, e.is) (
          h g.read e.read g.starts g.rest e.starts e.rest o g.reads e.reads,
          j g.read e.read g.starts g.rest e.starts e.rest g.reads e.reads g.works e.works,
        )

    pub as_then : (y : Working) (r : ReadPart) → first_byte s ≡ then_code → Joined then a c r → Linked z y a c → ReadingOf s o w y (Ok r)
    as_then y r e h l =
        by_front (λ (x : Part). ReadAs x o w y (Ok r)) s f.some
        (λ n k.
        rw e
        (as_two then y r h
        (λ p q ls s ms t m i b u.
        record {
          follow = joins_more places (joins_more places b.follow u.follow) (links l m i);
          taking = rw l.taking (joins_more most_characters b.taking u.taking);
        })
        n k))

    pub as_or : (r : ReadPart) → first_byte s ≡ or_code → Joined either a c r → ReadingOf s o w z (Ok r)
    as_or r e h =
        by_front (λ (x : Part). ReadAs x o w z (Ok r)) s f.some
        (λ n k.
        rw e
        (as_two either z r h
        (λ p q ls s ms t m i b u.
        record { follow = joins_more places b.follow u.follow; taking = joins_more most_characters b.taking u.taking })
        n k))

  -- with no second part there is no pattern, whatever became of the tables
  module _ {z : Working} {left : ℕ} (d : ReadingOf (drop (length s - a.left) s) a.next v z (Err left)) where
    as_not_two : (op : Pattern → Pattern → Pattern) (y : Working) (n : ℕ) → length (drop 1 s) ≤ n
        → ReadAs (two_parts op (read_part n (drop 1 s)) (λ (l : List ℕ). read_part n l)) o w y (Err left)
    as_not_two op y n k =
        let g = good_first n k in
        rw (g.is, bad (read_part n g.rest) (o + leaves g.read) v z left (at_second z (Err left) d n k g))

    pub as_no_second : (y : Working) → then_code ≤ first_byte s → first_byte s ≤ or_code → ReadingOf s o w y (Err left)
    as_no_second y l m =
        by_bool (eqb (first_byte s) then_code)
        (λ (t : eqb (first_byte s) then_code ≡ true).
        by_front (λ (x : Part). ReadAs x o w y (Err left)) s f.some
        (λ n k. rw (eqb_true (first_byte s) then_code t) (as_not_two then y n k)))
        (λ (t : eqb (first_byte s) then_code ≡ false).
        let i : first_byte s ≡ then_code → ⊥ = eqb_false (first_byte s) then_code t in
        let e : first_byte s ≡ or_code = omega arith in
        by_front (λ (x : Part). ReadAs x o w y (Err left)) s f.some (λ n k. rw e (as_not_two either y n k)))
