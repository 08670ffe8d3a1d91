-- Reading is local: a rule at the front of bytes is read from its own bytes alone, whatever stands behind them.
--   rule_local     : rule_front s ≡ records r n → take n t ≡ take n s → rule_front t ≡ records r n
--   rule_bounds    : rule_front s ≡ records r n → 2 < n ≤ length s
--   rule_not_zero  : rule_front s ≡ records r n → all_zero s ≡ false
--   rule_cut       : rule_front s ≡ records r n → read_rule_before (take n s) ≡ records r n
--   rule_whole     : read_rule_before bytes ≡ records r n → rule_front bytes ≡ records r n and n ≡ length bytes
--   rule_in_front  : read_rule_before bytes ≡ records r n → rule_front (bytes ++ rest) ≡ records r n
--   rule_before    : read_rule bytes ≡ records r n → read_rule_before bytes ≡ records r n; rule-unstray: and rule_strays r ≡ []
--   rule_since     : the same the other way
-- Follows from the checks on the records, test by test: each looks only at bytes before the offset at which its record ends. That no pattern comes
-- next is seen from the mark of the side behind it.
use Prim.Native.Nat.{ℕ, zero, suc, ◌+◌, ◌≤◌, ◌<◌}
use native.Mathlib.Nat.{zero-add, suc-add}
use native.Mathlib.Omega.{arith}
use mathlib.Core.Path.{◌≡◌, refl, sym, ap, ◌∙◌, subst}
use mathlib.Core.Bool.{true, false, ◌||◌}
use mathlib.Core.List.{List, [], ◌∷◌, ◌++◌}
use lib.Dec.{leb, ltb, eqb}
use lib.ListN.{length, get_or, take, drop, length-take}
use lib.Seq.{take-nil, get_or-take, take-append_seam, take-length, take-take}
use Rattle.paper.specs.Lists.{all}
use Rattle.paper.specs.Numbers.{fields, pattern_bytes, sheet_side}
use Rattle.paper.proofs.base.Tests.{cond_by, and_left, ltb_false, le_ltb, eqb_true, left_false, neq_eqb}
use Rattle.paper.specs.Written.{Judged, judged, judge}
use Rattle.paper.specs.Written as Written
use Rattle.paper.specs.Equation.{Side}
use Rattle.paper.specs.Alphabet.{edition_1}
use Rattle.paper.specs.Sheet.{Checked, fault, read, FieldPattern, byte_at, bytes_left, body, body_codes, Mark, PA, LE, RU, first_letter, marked}
use Rattle.paper.specs.Sheet.{pattern_judged, pattern_record, is_token, side_record, marked_side, Records, faulty, records, Fields}
use Rattle.paper.specs.Sheet.{open_fields, next_is, with_pattern, pattern_read, read_patterns}
use Rattle.paper.specs.Rule.{Rule, with_side, side_read, rule_front, rule_end, read_rule_before, rule_strays, rule_at_stray, rule_checked, read_rule}
use Rattle.paper_catalogue.specs.Catalogue.{all_zero}

-- the part behind the first a, as the end of a front
take_drop : (a m : ℕ) (l : List ℕ) → take m (drop a l) ≡ drop a (take (a + m) l)
take_drop zero m l = ap (λ (k : ℕ). take k l) (sym (zero-add m))
take_drop (suc a) m [] = take-nil m ∙ ap (λ (l : List ℕ). drop (suc a) l) (sym (take-nil (suc a + m)))
take_drop (suc a) m (x ∷ l) = take_drop a m l ∙ ap (λ (k : ℕ). drop (suc a) (take k (x ∷ l))) (sym (suc-add a m))

-- Two lists of bytes with the same first n bytes.
module _ (n : ℕ) (s t : List ℕ) (same : take n t ≡ take n s) where
  inside : (k : ℕ) → k ≤ n → k ≤ length s → k ≤ length t
  inside k h i = omega (arith, sym (length-take n t) ∙ ap length same ∙ length-take n s)

  byte_same : (i : ℕ) → i < n → byte_at t i ≡ byte_at s i
  byte_same i h = sym (get_or-take n t i 0 h) ∙ ap (λ (l : List ℕ). get_or l i 0) same ∙ get_or-take n s i 0 h

  front_same : (k : ℕ) → k ≤ n → take k t ≡ take k s
  front_same k h = sym (take-take k n t h) ∙ ap (λ (l : List ℕ). take k l) same ∙ take-take k n s h

  body_same : (a m : ℕ) → a + m ≤ n → body t a m ≡ body s a m
  body_same a m h = take_drop a m t ∙ ap (λ (l : List ℕ). drop a l) (front_same (a + m) h) ∙ sym (take_drop a m s)

  marked_same : (m : Mark) (at : ℕ) → at + 2 ≤ n → marked m t at ≡ marked m s at
  unfolding marked
  marked_same m at h = rw (byte_same at (omega arith), byte_same (at + 1) (omega arith))

  -- What a check on a record of s finds, if it is no fault: the record has `least` bytes or more, all there, and where it ends within the first n
  -- bytes, the check on t's finds the same.
  abbrev Likewise : {A : Type 0} → ℕ → ℕ → Checked A → Checked A → Type 0
  Likewise at least of-t (fault x place) = Unit {0}
  Likewise at least of-t (read a next) = (at + least ≤ next) × (next ≤ length s) × (next ≤ n → of-t ≡ read a next)

  -- Patterns.
  judged_likewise : (at : ℕ) (of-t : Checked FieldPattern) (j : Judged) (start f next : ℕ) → at + 4 ≤ next → next ≤ length s
      → (next ≤ n → of-t ≡ pattern_judged j start f next) → Likewise at 4 of-t (pattern_judged j start f next)
  judged_likewise at of-t (Written.not_one_pattern i) start f next low high e = tt
  judged_likewise at of-t (Written.too_many_leaves i) start f next low high e = tt
  judged_likewise at of-t (judged p) start f next low high e = (low, high, e)

  pattern_likewise : (at above : ℕ) → Likewise at 4 (pattern_record edition_1 t at above) (pattern_record edition_1 s at above)
  unfolding pattern_record
  pattern_likewise at above =
      let f = byte_at s (at + 2) in
      let m = byte_at s (at + 3) in
      let next = at + (4 + m) in
      let L = Likewise at 4 (pattern_record edition_1 t at above) in
      cond_by L (ltb (bytes_left s at) 4) (λ _. tt)
      (λ h. cond_by L (leb fields f || ltb f above) (λ _. tt)
      (λ i. cond_by L (eqb m 0 || ltb pattern_bytes m) (λ _. tt)
      (λ j. cond_by L (ltb (bytes_left s at) (4 + m)) (λ _. tt)
      (λ k. let left = ltb_false (bytes_left s at) 4 h in
      let all_left = ltb_false (bytes_left s at) (4 + m) k in
      let high : next ≤ length s = omega arith in
      judged_likewise at (pattern_record edition_1 t at above) (judge (body_codes edition_1 s (at + 4) m)) (at + 4) f next (omega arith) high
      (λ (g : next ≤ n). let in-t : next ≤ length t = inside next g high in
      rw (
        le_ltb (bytes_left t at) 4 (omega arith),
        byte_same (at + 2) (omega arith),
        byte_same (at + 3) (omega arith),
        i,
        j,
        le_ltb (bytes_left t at) (4 + m) (omega arith),
        body_same (at + 4) m (omega arith),
      ))))))

  -- Sides.
  side_likewise : (at : ℕ) → Likewise at 3 (side_record edition_1 t at) (side_record edition_1 s at)
  unfolding side_record
  side_likewise at =
      let m = byte_at s (at + 2) in
      let next = at + (3 + m) in
      let L = Likewise at 3 (side_record edition_1 t at) in
      cond_by L (ltb (bytes_left s at) 3) (λ _. tt)
      (λ h. cond_by L (ltb sheet_side m) (λ _. tt)
      (λ i. cond_by L (ltb (bytes_left s at) (3 + m)) (λ _. tt)
      (λ j. cond_by L (all is_token (body_codes edition_1 s (at + 3) m))
      (λ k. let left = ltb_false (bytes_left s at) 3 h in
      let all_left = ltb_false (bytes_left s at) (3 + m) j in
      let high : next ≤ length s = omega arith in (
        omega arith,
        high,
        λ (g : next ≤ n). let in-t : next ≤ length t = inside next g high in
            rw (
              le_ltb (bytes_left t at) 3 (omega arith),
              byte_same (at + 2) (omega arith),
              i,
              le_ltb (bytes_left t at) (3 + m) (omega arith),
              body_same (at + 3) m (omega arith),
              k,
            ),
      ))
      (λ _. tt))))

  -- a test in front of a check, passed in t too
  behind_test : {A : Type 0} (at least : ℕ) (of-t behind : Checked A) (x : Checked A)
      → (at + least ≤ n → at + least ≤ length t → of-t ≡ behind) → Likewise at least behind x → Likewise at least of-t x
  behind_test at least of-t behind (fault x place) e l = tt
  behind_test at least of-t behind (read a next) e (low, high, l) =
      (low, high, λ (g : next ≤ n). e (omega arith) (inside (at + least) (omega arith) (omega arith)) ∙ l g)

  marked_likewise : (m : Mark) (at : ℕ) → Likewise at 3 (marked_side edition_1 m t at) (marked_side edition_1 m s at)
  unfolding marked_side
  marked_likewise m at =
      let L = Likewise at 3 (marked_side edition_1 m t at) in
      cond_by L (ltb (bytes_left s at) 2) (λ _. tt)
      (λ _. cond_by L (marked m s at)
      (λ h. behind_test at 3 (marked_side edition_1 m t at) (side_record edition_1 t at) (side_record edition_1 s at)
      (λ (i : at + 3 ≤ n) (j : at + 3 ≤ length t). rw (le_ltb (bytes_left t at) 2 (omega arith), marked_same m at (omega arith), h))
      (side_likewise at))
      (λ _. tt))

  -- The patterns' records, up to the first record that is none. Where two bytes behind them are within the first n, t's are read likewise, by as
  -- many turns as there are bytes, and one.
  abbrev AllLikewise : ℕ → Fields → Records Fields → Type 0
  AllLikewise at fs (faulty x place) = Unit {0}
  AllLikewise at fs (records gs next) =
      (at ≤ next) × ((turns : ℕ) → next + 2 ≤ n → next + 2 ≤ length s → next < at + turns → read_patterns edition_1 turns t at fs ≡ records gs next)

  next_same : (at : ℕ) → at + 2 ≤ n → at + 2 ≤ length s → next_is PA t at ≡ next_is PA s at
  unfolding next_is
  next_same at h i =
      let j = inside (at + 2) h i in
      rw (le_ltb (bytes_left t at) 2 (omega arith), le_ltb (bytes_left s at) 2 (omega arith)) (marked_same PA at h)

  none_next : (at : ℕ) (fs : Fields) → next_is PA s at ≡ false → (turns : ℕ) → at + 2 ≤ n → at + 2 ≤ length s → at < at + turns
      → read_patterns edition_1 turns t at fs ≡ records fs at
  none_next at fs h zero i j k = absurd (omega arith)
  none_next at fs h (suc turns) i j k = rw (next_same at i j, h)

  one_next : (at : ℕ) (fs : Fields) (fp : FieldPattern) (mid : ℕ) → next_is PA s at ≡ true
      → Likewise at 4 (pattern_record edition_1 t at fs.above) (read fp mid)
      → (x : Records Fields) → AllLikewise mid (with_pattern fs at fp) x → AllLikewise at fs x
  one_next at fs fp mid h l (faulty x place) k = tt
  one_next at fs fp mid h (low, high, l) (records gs next) (m, k) = (omega arith, turned)
    where
      turned : (turns : ℕ) → next + 2 ≤ n → next + 2 ≤ length s → next < at + turns → read_patterns edition_1 turns t at fs ≡ records gs next
      turned zero i j less = absurd (omega (arith, low, m))
      turned (suc turns) i j less =
          rw (next_same at (omega (arith, low, m)) (omega (arith, low, m)), h, l (omega (arith, m))) (k turns i j (omega (arith, low)))

  behind_likewise : (at : ℕ) (fs : Fields) (go_on : ℕ → Fields → Records Fields) (x : Checked FieldPattern) → next_is PA s at ≡ true
      → ((next : ℕ) (more : Fields) → AllLikewise next more (go_on next more))
      → Likewise at 4 (pattern_record edition_1 t at fs.above) x → AllLikewise at fs (pattern_read fs at go_on x)
  behind_likewise at fs go_on (fault x place) h i l = tt
  behind_likewise at fs go_on (read fp mid) h i l = one_next at fs fp mid h l (go_on mid (with_pattern fs at fp)) (i mid (with_pattern fs at fp))

  patterns_likewise : (turns : ℕ) (at : ℕ) (fs : Fields) → AllLikewise at fs (read_patterns edition_1 turns s at fs)
  patterns_likewise zero at fs = tt
  patterns_likewise (suc turns) at fs =
      cond_by (AllLikewise at fs) (next_is PA s at)
      (λ h. behind_likewise at fs (read_patterns edition_1 turns s) (pattern_record edition_1 s at fs.above) h
      (patterns_likewise turns) (pattern_likewise at fs.above))
      (λ h. (omega arith, none_next at fs h))

  -- The rule at the front: it has more than two bytes, the first is that of `RU`, and where all are among the first n, t's is read likewise.
  abbrev RuleLikewise : Records Rule → Type 0
  RuleLikewise (faulty x at) = Unit {0}
  RuleLikewise (records r next) = (2 < next) × (next ≤ length s) × (byte_at s 0 ≡ first_letter RU) × (next ≤ n → rule_front t ≡ records r next)

  sided : (fs : Fields) (at : ℕ) (x : Checked Side) → byte_at s 0 ≡ first_letter RU → 2 ≤ at
      → (at + 3 ≤ n → at + 3 ≤ length s → rule_front t ≡ with_side fs (marked_side edition_1 LE t at))
      → Likewise at 3 (marked_side edition_1 LE t at) x → RuleLikewise (with_side fs x)
  sided fs at (fault x place) b h e l = tt
  sided fs at (read side next) b h e (low, high, l) =
      (omega arith, high, b, λ (g : next ≤ n). e (omega arith) (omega arith) ∙ ap (with_side fs) (l g))

  patterned : (x : Records Fields) → byte_at s 0 ≡ first_letter RU → marked RU s 0 ≡ true → AllLikewise 2 open_fields x → RuleLikewise (side_read s x)
  unfolding rule_front
  patterned (faulty x at) b h k = tt
  patterned (records fs at) b h (low, k) =
      sided fs at (marked_side edition_1 LE s at) b low
      (λ (i : at + 3 ≤ n) (j : at + 3 ≤ length s).
      let in-t = inside (at + 3) i j in
      rw (le_ltb (length t) 2 (omega arith), marked_same RU 0 (omega arith), h, k (suc (length t)) (omega arith) (omega arith) (omega arith)))
      (marked_likewise LE at)

  rule_likewise : RuleLikewise (rule_front s)
  unfolding rule_front marked
  rule_likewise =
      cond_by RuleLikewise (ltb (length s) 2) (λ _. tt)
      (λ _. cond_by RuleLikewise (marked RU s 0)
      (λ h. patterned (read_patterns edition_1 (suc (length s)) s 2 open_fields) (eqb_true (byte_at s 0) (first_letter RU) (and_left _ _ h)) h
      (patterns_likewise (suc (length s)) 2 open_fields))
      (λ _. tt))

-- a list whose first byte is not zero
begins_not_zero : (s : List ℕ) → byte_at s 0 ≡ first_letter RU → all_zero s ≡ false
begins_not_zero [] e = absurd (omega (arith, e))
begins_not_zero (b ∷ s) e = left_false (eqb b 0) (all_zero s) (neq_eqb b 0 (λ (z : b ≡ 0). omega (arith, e)))

module _ (s : List ℕ) {r : Rule} {n : ℕ} (e : rule_front s ≡ records r n) where
  -- A rule at the front of bytes is read likewise whatever stands behind its own.
  pub rule_local : (t : List ℕ) → take n t ≡ take n s → rule_front t ≡ records r n
  rule_local t same = let (low, high, first, k) = subst (RuleLikewise n s t same) e (rule_likewise n s t same) in k (omega arith)

  pub rule_bounds : (2 < n) × (n ≤ length s)
  rule_bounds = let (low, high, first, k) = subst (RuleLikewise n s s refl) e (rule_likewise n s s refl) in (low, high)

  pub rule_not_zero : all_zero s ≡ false
  rule_not_zero = let (low, high, first, k) = subst (RuleLikewise n s s refl) e (rule_likewise n s s refl) in begins_not_zero s first

  -- its own bytes by themselves
  pub rule_cut : read_rule_before (take n s) ≡ records r n
  unfolding read_rule_before
  rule_cut =
      rw (rule_local (take n s) (take-take n n s (omega arith)), le_ltb n (length (take n s)) (rw (length-take n s) (omega (arith, rule_bounds))))

-- A rule by itself has all its bytes, and is read likewise with any bytes behind them.
module _ (bytes : List ℕ) {r : Rule} {n : ℕ} (e : read_rule_before bytes ≡ records r n) where
  abbrev Whole : Records Rule → Type 0
  Whole (faulty x at) = Unit {0}
  Whole (records q next) = (rule_front bytes ≡ records q next) × (next ≡ length bytes)

  whole : (x : Records Rule) → rule_front bytes ≡ x → Whole (rule_end bytes x)
  whole (faulty x at) f = tt
  whole (records q next) f =
      cond_by Whole (ltb next (length bytes)) (λ _. tt)
      (λ h. let (low, high) = rule_bounds bytes f in (f, omega (arith, ltb_false next (length bytes) h)))

  pub rule_whole : (rule_front bytes ≡ records r n) × (n ≡ length bytes)
  unfolding read_rule_before
  rule_whole = subst Whole e (whole (rule_front bytes) refl)

  pub rule_in_front : (rest : List ℕ) → rule_front (bytes ++ rest) ≡ records r n
  rule_in_front rest =
      let (f, all) = rule_whole in
      rule_local bytes f (bytes ++ rest) (rw all (take-append_seam bytes rest ∙ sym (take-length bytes)))

-- A rule by itself, read with the check on strays and without it.
abbrev Unstray : Records Rule → Records Rule → Type 0
Unstray before (faulty x at) = Unit {0}
Unstray before (records r n) = (before ≡ records r n) × (rule_strays r ≡ [])

unstray_at : (r : Rule) (n : ℕ) (fs : List ℕ) → rule_strays r ≡ fs → Unstray (records r n) (rule_at_stray r n fs)
unstray_at r n [] e = (refl, e)
unstray_at r n (f ∷ fs) e = tt

unstray : (x : Records Rule) → Unstray x (rule_checked x)
unstray (faulty x at) = tt
unstray (records r n) = unstray_at r n (rule_strays r) refl

module _ (bytes : List ℕ) {r : Rule} {n : ℕ} where
  both_read : read_rule bytes ≡ records r n → (read_rule_before bytes ≡ records r n) × (rule_strays r ≡ [])
  unfolding read_rule
  both_read e = subst (Unstray (read_rule_before bytes)) e (unstray (read_rule_before bytes))

  pub rule_before : read_rule bytes ≡ records r n → read_rule_before bytes ≡ records r n
  rule_before e = (both_read e).0

  pub rule_unstray : read_rule bytes ≡ records r n → rule_strays r ≡ []
  rule_unstray e = (both_read e).1

  pub rule_since : read_rule_before bytes ≡ records r n → rule_strays r ≡ [] → read_rule bytes ≡ records r n
  unfolding read_rule
  rule_since e none = rw (e, none)
