-- The place of a 15 is the first byte at which no pattern can go on: all bytes before it can be continued to a pattern, and with it none can.
--   continued     : judge s ≡ not_one_pattern i → Continues (take i s)
--   settled       : judge s ≡ not_one_pattern i → i < length s → judge (take (suc i) s ++ t) ≡ not_one_pattern i
--   not_continued : judge s ≡ not_one_pattern i → i < length s → Continues (take (suc i) s) → ⊥
--   inside_or_end : judge s ≡ not_one_pattern i → (i < length s) ⊎ ((i ≡ length s) × Continues s)
-- What the bytes are continued to is judged as one pattern, which may have too many leaves (`continues_judged`).
-- A pattern that is missing is continued by 64, the empty text; a range by its lo as hi. Follows from the ways through the reader (`Reader`), and
-- from code and reading being inverse (`Code`).
use Prim.Native.Nat.{ℕ, zero, suc, ◌+◌, ◌-◌, ◌≤◌, ◌<◌}
use native.Mathlib.Omega.{arith}
use mathlib.Core.Path.{◌≡◌, refl, sym, ap, ◌∙◌, subst}
use mathlib.Core.Logic.{◌⊎◌, inl, inr, ⊎_elim}
use mathlib.Core.Bool.{false}
use mathlib.Core.List.{List, [], ◌∷◌, ◌++◌, append_assoc, append-nil}
use lib.Dec.{ltb}
use lib.ListN.{length, get_or, take, length-append}
use lib.Seq.{length-take-le, take_all, take-suc, take-append_seam, get_or-append_seam, append_snoc}
use Rattle.paper.specs.Numbers.{most_characters, empty_code, range_code, many_code}
use Rattle.paper.proofs.base.Tests.{by_bool, ltb_true, lt_ltb, ltb_false}
use Rattle.paper.proofs.base.Lists.{cons_eq}
use Rattle.paper.specs.Pattern.{range, Pattern, leaf, empty, many}
use Rattle.paper.specs.Taken.{leaves_take}
use Rattle.paper.specs.Written.{no_pattern, two_parts, read_part, not_one_pattern, too_many_leaves, judged, judge}
use Rattle.paper.specs.Saying.{pattern_code}
use Rattle.paper_laws.proofs.places.Reader.{Operator, is_then, is_or, Reads, runs_out, lo_missing, lo_wrong, hi_missing, hi_wrong}
use Rattle.paper_laws.proofs.places.Reader.{first_wrong, second_wrong, starred_wrong, no_code, Judges, at_fault, left_over, judges}
use Rattle.paper_laws.proofs.places.Judged.{range_takes, both_take, read_takes, within_not_one}
use Rattle.paper_laws.proofs.saying.Code.{read_code, both_code, read_says, code_one}

-- the bytes, with others behind them, are the code of a pattern whose leaves take characters
pub record Continues (u : List ℕ) : Type 0 where
  pub its : Pattern
  pub behind : List ℕ
  pub takes : leaves_take most_characters its
  pub code : pattern_code its ≡ u ++ behind

-- What they are continued to is judged as one pattern.
pub continues_judged : (u : List ℕ) (c : Continues u)
    → (judge (u ++ c.behind) ≡ judged c.its) ⊎ ((j : ℕ) × (judge (u ++ c.behind) ≡ too_many_leaves j))
continues_judged u c = rw (← c.code) (code_one c.its c.takes)

-- no byte, the byte of a range, and that with its lo
abbrev pub none_continues : Continues []
none_continues = record { its = empty; behind = empty_code ∷ []; takes = tt; code = refl }

range_continues : Continues (range_code ∷ [])
range_continues = record { its = leaf (range 0 0); behind = 0 ∷ 0 ∷ []; takes = range_takes most_characters 0 0 (omega arith) (omega arith); code = refl }

lo_continues : (lo : ℕ) → lo < most_characters → Continues (range_code ∷ lo ∷ [])
lo_continues lo h = record { its = leaf (range lo lo); behind = lo ∷ []; takes = range_takes most_characters lo lo (omega arith) h; code = refl }

-- with an operator in front of them, with an operator and its first pattern, with a star
module _ (u : List ℕ) (c : Continues u) where
  abbrev pub first_continues : {code : ℕ} {op : Pattern → Pattern → Pattern} → Operator code op → Continues (code ∷ u)
  first_continues {op = op} o =
      record {
        its = op c.its empty;
        behind = c.behind ++ empty_code ∷ [];
        takes = both_take most_characters c.its empty o c.takes tt;
        code = rw (both_code c.its empty o, c.code) (cons_eq refl (append_assoc u c.behind (empty_code ∷ [])));
      }

  abbrev pub second_continues : {code : ℕ} {op : Pattern → Pattern → Pattern} (a : Pattern) → Operator code op → leaves_take most_characters a
      → Continues (code ∷ pattern_code a ++ u)
  second_continues {op = op} a o h =
      record {
        its = op a c.its;
        behind = c.behind;
        takes = both_take most_characters a c.its o h c.takes;
        code = rw (both_code a c.its o, c.code) (cons_eq refl (sym (append_assoc (pattern_code a) u c.behind)));
      }

  abbrev pub starred_continues : Continues (many_code ∷ u)
  starred_continues = record { its = many c.its; behind = c.behind; takes = c.takes; code = cons_eq refl c.code }

-- Whatever stands behind the byte b, reading the bytes u and then b stops at b.
abbrev ReadSettled : List ℕ → ℕ → Type 0
ReadSettled u b = (n : ℕ) → length u ≤ n → (t : List ℕ) → read_part (suc n) (u ++ b ∷ t) ≡ no_pattern (length (b ∷ t))

operator_read : {code : ℕ} {op : Pattern → Pattern → Pattern} (n : ℕ) (s : List ℕ) → Operator code op
    → read_part (suc n) (code ∷ s) ≡ two_parts op (read_part n s) (read_part n)
operator_read n s is_then = refl
operator_read n s is_or = refl

module _ (u : List ℕ) (b : ℕ) (h : ReadSettled u b) where
  first_settled : {code : ℕ} {op : Pattern → Pattern → Pattern} → Operator code op → ReadSettled (code ∷ u) b
  first_settled o zero k t = absurd (omega arith)
  first_settled o (suc n) k t = rw (operator_read (suc n) (u ++ b ∷ t) o, h n (omega arith) t)

  second_settled : {code : ℕ} {op : Pattern → Pattern → Pattern} (a : Pattern) → Operator code op → leaves_take most_characters a
      → ReadSettled (code ∷ pattern_code a ++ u) b
  second_settled a o g zero k t = absurd (omega arith)
  second_settled a o g (suc n) k t =
      let sum = length-append (pattern_code a) u in
      rw (
        operator_read (suc n) (pattern_code a ++ u ++ b ∷ t) o,
        append_assoc (pattern_code a) u (b ∷ t),
        read_code a g (suc n) (omega arith) (u ++ b ∷ t),
        h n (omega arith) t,
      )

  starred_settled : ReadSettled (many_code ∷ u) b
  starred_settled zero k t = absurd (omega arith)
  starred_settled (suc n) k t = rw (h n (omega arith) t)

-- Bytes parted at a byte b, from which so many are left: what is so of those before it and of b.
pub data Parted (P : List ℕ → ℕ → Type 0) (s : List ℕ) : ℕ → Type 0 where
  parted : (u : List ℕ) (b : ℕ) (v : List ℕ) → s ≡ u ++ b ∷ v → P u b → Parted P s (suc (length v))

-- with bytes in front of them
pub parted_behind : (P Q : List ℕ → ℕ → Type 0) (front s : List ℕ) {left : ℕ} → ((u : List ℕ) (b : ℕ) → P u b → Q (front ++ u) b)
    → Parted P s left → Parted Q (front ++ s) left
parted_behind P Q front s f (parted u b v e h) =
    parted (front ++ u) b v (ap (λ (l : List ℕ). front ++ l) e ∙ sym (append_assoc front u (b ∷ v))) (f u b h)

-- by the offset of b
pub parted_at : (P : List ℕ → ℕ → Type 0) (s : List ℕ) {left : ℕ} → Parted P s left → P (take (length s - left) s) (get_or s (length s - left) 0)
parted_at P s (parted u b v e h) =
    rw (
      place,
      ap (λ (l : List ℕ). take (length u) l) e,
      take-append_seam u (b ∷ v),
      ap (λ (l : List ℕ). get_or l (length u) 0) e,
      get_or-append_seam u b v 0,
    ) h
  where
    place : length s - length (b ∷ v) ≡ length u
    place = rw (e, length-append u (b ∷ v)) (omega arith)

-- Where reading, or judging, stops with so many bytes left: at the end, and all of them can be continued; or at a byte.
data Stops (AtByte : List ℕ → ℕ → Type 0) (s : List ℕ) : ℕ → Type 0 where
  at_end : Continues s → Stops AtByte s 0
  at_byte : {left : ℕ} → Parted AtByte s left → Stops AtByte s left

abbrev ReadStop : List ℕ → ℕ → Type 0
ReadStop u b = Continues u × ReadSettled u b

stops_behind : (front s : List ℕ) {left : ℕ} → ((u : List ℕ) → Continues u → Continues (front ++ u))
    → ((u : List ℕ) (b : ℕ) → ReadSettled u b → ReadSettled (front ++ u) b) → Stops ReadStop s left → Stops ReadStop (front ++ s) left
stops_behind front s f g (at_end c) = at_end (f s c)
stops_behind front s f g (at_byte d) = at_byte (parted_behind ReadStop ReadStop front s (λ u b h. (f u h.0, g u b h.1)) d)

read_stops : {s : List ℕ} {left : ℕ} → Reads s (no_pattern left) → Stops ReadStop s left
read_stops runs_out = at_end none_continues
read_stops lo_missing = at_end range_continues
read_stops (lo_wrong {lo = lo} {s = s} h) = at_byte (parted (range_code ∷ []) lo s refl (range_continues, λ n k t. rw h))
read_stops (hi_missing {lo = lo} h) = at_end (lo_continues lo h)
read_stops (hi_wrong {lo = lo} {hi = hi} {s = s} h k) =
    at_byte (parted (range_code ∷ lo ∷ []) hi s refl (lo_continues lo h, λ n i t. rw (lt_ltb lo most_characters h, k)))
read_stops (first_wrong {code = code} {s = s} o d) =
    stops_behind (code ∷ []) s (λ u c. first_continues u c o) (λ u b h. first_settled u b h o) (read_stops d)
read_stops (second_wrong {code = code} {r = r} {a = a} {left = left} o d e) =
    let takes = read_takes d in
    subst (λ (s : List ℕ). Stops ReadStop (code ∷ s) left) (sym (read_says d))
    (stops_behind (code ∷ pattern_code a) r (λ u c. second_continues u c a o takes) (λ u b h. second_settled u b h a o takes) (read_stops e))
read_stops (starred_wrong {s = s} d) = stops_behind (many_code ∷ []) s starred_continues starred_settled (read_stops d)
read_stops (no_code {b = b} {s = s} h0 h1 h2 h3 h4 h5) = at_byte (parted [] b s refl (none_continues, λ n k t. rw (h0, h1, h2, h3, h4, h5)))

-- The same of judging.
abbrev JudgeSettled : List ℕ → ℕ → Type 0
JudgeSettled u b = (t : List ℕ) → judge (u ++ b ∷ t) ≡ not_one_pattern (length u)

length_more : (u : List ℕ) (b : ℕ) (t : List ℕ) → length (u ++ b ∷ t) ≡ suc (length u + length t)
length_more u b t = omega (arith, length-append u (b ∷ t))

read_judge : (u : List ℕ) (b : ℕ) → ReadSettled u b → JudgeSettled u b
unfolding judge
read_judge u b h t = rw (length_more u b t, h (length u + length t) (omega arith) t) (ap not_one_pattern (omega arith))

over_judge : (p : Pattern) (b : ℕ) → leaves_take most_characters p → JudgeSettled (pattern_code p) b
unfolding judge
over_judge p b h t =
    let u = pattern_code p in
    rw (length_more u b t, read_code p h (suc (length u + length t)) (omega arith) (b ∷ t)) (ap not_one_pattern (omega arith))

abbrev JudgeStop : List ℕ → ℕ → Type 0
JudgeStop u b = Continues u × JudgeSettled u b

judged_so : {s : List ℕ} {left : ℕ} → Stops ReadStop s left → Stops JudgeStop s left
judged_so (at_end c) = at_end c
judged_so {s} (at_byte d) = at_byte (parted_behind ReadStop JudgeStop [] s (λ u b h. (h.0, read_judge u b h.1)) d)

-- the pattern whose code stands before the bytes left over
over_continues : (p : Pattern) → leaves_take most_characters p → Continues (pattern_code p)
over_continues p h = record { its = p; behind = []; takes = h; code = sym (append-nil (pattern_code p)) }

judge_stops : {s : List ℕ} {i : ℕ} → Judges s (not_one_pattern i) → (left : ℕ) × Stops JudgeStop s left × (i ≡ length s - left)
judge_stops (at_fault {left = left} d) = (left, judged_so (read_stops d), refl)
judge_stops (left_over {p = p} {rest = rest} {b = b} d) =
    let takes = read_takes d in
    (suc (length rest), at_byte (parted (pattern_code p) b rest (read_says d) (over_continues p takes, over_judge p b takes)), refl)

before_stop : (s : List ℕ) {left : ℕ} → Stops JudgeStop s left → Continues (take (length s - left) s)
before_stop s (at_end c) = rw (take_all (length s - 0) s (omega arith)) c
before_stop s (at_byte d) = (parted_at JudgeStop s d).0

after_stop : (s : List ℕ) {left : ℕ} → Stops JudgeStop s left → length s - left < length s → (t : List ℕ)
    → judge (take (suc (length s - left)) s ++ t) ≡ not_one_pattern (length s - left)
after_stop s (at_end c) k t = absurd (omega arith)
after_stop s {left} (at_byte d) k t =
    let i = length s - left in
    rw (take-suc s i 0 k, append_snoc (take i s) (get_or s i 0) t, (parted_at JudgeStop s d).1 t, length-take-le i s (omega arith))

module _ (s : List ℕ) (i : ℕ) (e : judge s ≡ not_one_pattern i) where
  -- all bytes before the place can be continued to a pattern
  pub continued : Continues (take i s)
  continued =
      let (left, stops, place) = judge_stops (subst (Judges s) e (judges s)) in
      rw place (before_stop s stops)

  -- with the byte at the place the fault is the same, whatever stands behind it
  pub settled : i < length s → (t : List ℕ) → judge (take (suc i) s ++ t) ≡ not_one_pattern i
  settled =
      let (left, stops, place) = judge_stops (subst (Judges s) e (judges s)) in
      rw place (after_stop s stops)

  -- so no pattern begins with these bytes
  pub not_continued : i < length s → Continues (take (suc i) s) → ⊥
  not_continued h c =
      ⊎_elim
      (λ k. let same = settled h c.behind in let z : ◌≡◌ {A = ℕ} 0 1 = cc in omega arith)
      (λ (j, k). let same = settled h c.behind in let z : ◌≡◌ {A = ℕ} 0 1 = cc in omega arith)
      (continues_judged (take (suc i) s) c)

  -- the place is one of the bytes, or the code runs out and all of them can be continued
  pub inside_or_end : (i < length s) ⊎ ((i ≡ length s) × Continues s)
  inside_or_end =
      by_bool (ltb i (length s))
      (λ h. inl (ltb_true i (length s) h))
      (λ (h : ltb i (length s) ≡ false).
      let k = ltb_false i (length s) h in
      inr (omega (arith, within_not_one s i e), subst Continues (take_all i s k) continued))
