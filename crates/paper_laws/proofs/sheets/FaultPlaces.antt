-- For whoever shows the byte at fault: where a sheet or a rule is refused, the place is one of its bytes; the end, where a sheet is cut short; and
-- where bytes are not one pattern, one of them or the end.
--   sheet_shown : read_sheet s ≡ refused x at → Shown s x at
--   rule_shown  : read_rule s ≡ faulty x at → Shown s x at
-- Follows from the checks on the records, test by test: a byte that is judged is there. For a pattern's bytes from `within_not_one` and
-- `too_many_inside` of `Judged`. Which of a pattern's bytes it is stands in `Continued` for 15 and in `LeafPlace` for 16.
use Prim.Native.Nat.{ℕ, zero, suc, ◌+◌, ◌-◌, ◌≤◌, ◌<◌}
use native.Mathlib.Omega.{arith}
use mathlib.Core.Path.{◌≡◌, refl, subst}
use mathlib.Core.Bool.{Bool, true, false, cond, ◌||◌}
use mathlib.Core.List.{List, [], ◌∷◌}
use lib.Dec.{leb, ltb, eqb}
use lib.ListN.{length, drop, get_or, set, replicate, length-take, length-drop, length-map}
use Rattle.paper.specs.Lists.{all, leading}
use Rattle.paper.specs.Numbers.{fields, pattern_bytes, sheet_side}
use Rattle.paper.specs.Written.{Judged, judged, judge}
use Rattle.paper.specs.Written as Written
use Rattle.paper.specs.Equation.{Side}
use Rattle.paper.specs.Alphabet.{Edition, edition_1, alphabet_of, code, codes}
use Rattle.paper.specs.Question.{Question}
use Rattle.paper.specs.Sheet.{Fault, cut_short, wrong_mark, wrong_field, wrong_length, not_one_pattern, too_many_leaves, wrong_token, wrong_edition, stray_pattern}
use Rattle.paper.specs.Sheet.{Checked, fault, read, FieldPattern, byte_at, bytes_left, body, body_codes, Mark, PA, LE, RI, RU, ED, marked}
use Rattle.paper.specs.Sheet.{pattern_judged, pattern_record, is_token, side_record, marked_side, Records, faulty, records, Fields}
use Rattle.paper.specs.Sheet.{open_fields, next_is, with_pattern, pattern_read, read_patterns, Reading, refused, asked, read_end, right_read, left_read, sides_read, edition_front, edition_read, read_sheet}
use Rattle.paper.specs.Sheet.{strays, LastCheck, at_stray, stray_check, read_by}
use Rattle.paper.specs.Rule.{Rule, with_side, side_read, rule_front, rule_end, read_rule_before, rule_strays, rule_at_stray, rule_checked, read_rule}
use Rattle.paper.proofs.base.Tests.{by_bool, cond_by, true_false, ltb_true, ltb_false}
use Rattle.paper_laws.proofs.places.Judged.{within_not_one, too_many_inside}
use Rattle.paper_laws.proofs.sheets.Asked.{Found, PatternRead, record_read, Listed}

-- "The place should be the byte itself: for 11 the sheet's length". For 15, where the code runs out, it is the byte behind the pattern's, or the
-- end.
abbrev pub Shown : List ℕ → Fault → ℕ → Type 0
Shown s cut_short at = at ≡ length s
Shown s wrong_mark at = at < length s
Shown s wrong_field at = at < length s
Shown s wrong_length at = at < length s
Shown s not_one_pattern at = at ≤ length s
Shown s too_many_leaves at = at < length s
Shown s wrong_token at = at < length s
Shown s wrong_edition at = at < length s
Shown s stray_pattern at = at < length s

-- the first that fails the test is one of them
pub leading_below : (p : ℕ → Bool) (l : List ℕ) → all p l ≡ false → leading p l < length l
leading_below p [] h = absurd (true_false refl h)
leading_below p (x ∷ l) h =
    by_bool (p x)
    (λ (t : p x ≡ true). rw t (let k = leading_below p l (rw t at h) in omega arith))
    (λ (f : p x ≡ false). rw f (omega arith))

module _ (s : List ℕ) where
  -- what a check on a record finds, what reading records gives and what reading a sheet gives, if it is a fault
  abbrev CheckShown : {A : Type 0} → Checked A → Type 0
  CheckShown (fault x at) = Shown s x at
  CheckShown (read a next) = Unit {0}

  abbrev RecordsShown : {A : Type 0} → Records A → Type 0
  RecordsShown (faulty x at) = Shown s x at
  RecordsShown (records a next) = Unit {0}

  abbrev SheetShown : Reading → Type 0
  SheetShown (refused x at) = Shown s x at
  SheetShown (asked q) = Unit {0}

  body_length : (e : Edition) (at n : ℕ) → length (body_codes e s at n) ≤ length s - at
  body_length e at n = rw (length-map (body s at n) (code e), length-take n (drop at s), length-drop at s) (omega arith)

  -- Patterns.
  judged_shown : (start f next : ℕ) (b : List ℕ) → start + length b ≤ length s → (j : Judged) → judge b ≡ j
      → CheckShown (pattern_judged j start f next)
  judged_shown start f next b h (Written.not_one_pattern i) e = let k = within_not_one b i e in omega arith
  judged_shown start f next b h (Written.too_many_leaves i) e = let k = too_many_inside b i e in omega arith
  judged_shown start f next b h (judged p) e = tt

  pattern_shown : (e : Edition) (at least : ℕ) → CheckShown (pattern_record e s at least)
  unfolding pattern_record
  pattern_shown e at least =
      let f = byte_at s (at + 2) in
      let n = byte_at s (at + 3) in
      cond_by CheckShown (ltb (bytes_left s at) 4) (λ _. refl)
      (λ h. let left = ltb_false (bytes_left s at) 4 h in
      cond_by CheckShown (leb fields f || ltb f least) (λ _. omega arith)
      (λ _. cond_by CheckShown (eqb n 0 || ltb pattern_bytes n) (λ _. omega arith)
      (λ _. cond_by CheckShown (ltb (bytes_left s at) (4 + n)) (λ _. refl)
      (λ _. judged_shown (at + 4) f (at + (4 + n)) (body_codes e s (at + 4) n) (omega (arith, body_length e (at + 4) n)) (judge (body_codes e s (at + 4) n)) refl))))

  behind_shown : (fs : Fields) (mark : ℕ) (go_on : ℕ → Fields → Records Fields) (x : Checked FieldPattern)
      → ((next : ℕ) (more : Fields) → RecordsShown (go_on next more))
      → CheckShown x → RecordsShown (pattern_read fs mark go_on x)
  behind_shown fs mark go_on (fault x at) i h = h
  behind_shown fs mark go_on (read fp next) i h = i next (with_pattern fs mark fp)

  patterns_shown : (e : Edition) (n at : ℕ) (fs : Fields) → RecordsShown (read_patterns e n s at fs)
  patterns_shown e zero at fs = refl
  patterns_shown e (suc n) at fs =
      cond_by RecordsShown (next_is PA s at)
      (λ _. behind_shown fs at (read_patterns e n s) (pattern_record e s at fs.above) (patterns_shown e n) (pattern_shown e at fs.above))
      (λ _. tt)

  -- Sides.
  side_shown : (e : Edition) (at : ℕ) → CheckShown (side_record e s at)
  unfolding side_record
  side_shown e at =
      let n = byte_at s (at + 2) in
      let b = body_codes e s (at + 3) n in
      cond_by CheckShown (ltb (bytes_left s at) 3) (λ _. refl)
      (λ h. let left = ltb_false (bytes_left s at) 3 h in
      cond_by CheckShown (ltb sheet_side n) (λ _. omega arith)
      (λ _. cond_by CheckShown (ltb (bytes_left s at) (3 + n)) (λ _. refl)
      (λ _. cond_by CheckShown (all is_token b) (λ _. tt)
      (λ t. omega (arith, leading_below is_token b t, body_length e (at + 3) n)))))

  marked_shown : (e : Edition) (m : Mark) (at : ℕ) → CheckShown (marked_side e m s at)
  unfolding marked_side
  marked_shown e m at =
      cond_by CheckShown (ltb (bytes_left s at) 2) (λ _. refl)
      (λ h. cond_by CheckShown (marked m s at) (λ _. side_shown e at)
      (λ _. let left = ltb_false (bytes_left s at) 2 h in omega arith))

  -- The sheet: what the last check shows, of marks that are places of the sheet.
  abbrev MarksIn : List ℕ → Type 0
  MarksIn marks = (f : ℕ) → get_or marks f 0 < length s

  abbrev Marked : Fields → Type 0
  Marked fs = MarksIn fs.marks

  mark_set : (marks : List ℕ) (i x : ℕ) → x < length s → MarksIn marks → MarksIn (set marks i x)
  mark_set [] i x h m f = m f
  mark_set (y ∷ marks) zero x h m zero = h
  mark_set (y ∷ marks) zero x h m (suc f) = m (suc f)
  mark_set (y ∷ marks) (suc i) x h m zero = m zero
  mark_set (y ∷ marks) (suc i) x h m (suc f) = mark_set marks i x h (λ k. m (suc k)) f

  none_marked : 0 < length s → (n : ℕ) → MarksIn (replicate n 0)
  none_marked h zero f = h
  none_marked h (suc n) zero = h
  none_marked h (suc n) (suc f) = none_marked h n f

  module _ (last : LastCheck) (it : (marks : List ℕ) (q : Question) → MarksIn marks → SheetShown (last marks q)) where
    end_shown : (at : ℕ) (marks : List ℕ) (q : Question) → MarksIn marks → SheetShown (read_end last s at marks q)
    unfolding read_end
    end_shown at marks q h = cond_by SheetShown (ltb at (length s)) (λ h. let k = ltb_true at (length s) h in omega arith) (λ _. it marks q h)

    right_shown : (e : Edition) (fs : Fields) (l : Side) (x : Checked Side) → MarksIn fs.marks → CheckShown x → SheetShown (right_read last e s fs l x)
    right_shown e fs l (fault x at) m h = h
    right_shown e fs l (read r next) m h = end_shown next fs.marks (record { alphabet = alphabet_of e; left = l; right = r; held = fs.held }) m

    left_shown : (e : Edition) (fs : Fields) (x : Checked Side) → MarksIn fs.marks → CheckShown x → SheetShown (left_read last e s fs x)
    left_shown e fs (fault x at) m h = h
    left_shown e fs (read l next) m h = right_shown e fs l (marked_side e RI s next) m (marked_shown e RI next)

    sides_shown : (e : Edition) (x : Records Fields) → Listed Marked x → RecordsShown x → SheetShown (sides_read last e s x)
    sides_shown e (faulty x at) m h = h
    sides_shown e (records fs at) m h = left_shown e fs (marked_side e LE s at) m (marked_shown e LE at)

  -- the records keep it
  each_marked : (e : Edition) (at : ℕ) (fs : Fields) (go_on : ℕ → Fields → Records Fields)
      → ((next : ℕ) (more : Fields) → Marked more → Listed Marked (go_on next more)) → Marked fs
      → (x : Checked FieldPattern) → Found (PatternRead e s at fs.above) x → Listed Marked (pattern_read fs at go_on x)
  each_marked e at fs go_on i m (fault x place) h = tt
  each_marked e at fs go_on i m (read fp next) h = i next (with_pattern fs at fp) (mark_set fs.marks fp.field at h.there m)

  all_marked : (e : Edition) (n at : ℕ) (fs : Fields) → Marked fs → Listed Marked (read_patterns e n s at fs)
  all_marked e zero at fs m = tt
  all_marked e (suc n) at fs m =
      cond_by (Listed Marked) (next_is PA s at)
      (λ _. each_marked e at fs (read_patterns e n s) (all_marked e n) m (pattern_record e s at fs.above) (record_read e s at fs.above))
      (λ _. m)

  edition_shown : CheckShown (edition_front s)
  unfolding edition_front next_is
  edition_shown =
      cond_by CheckShown (cond (ltb (bytes_left s 0) 2) false (marked ED s 0))
      (λ _. cond_by CheckShown (ltb (length s) 3) (λ _. refl)
      (λ h. cond_by CheckShown (eqb (byte_at s 2) 2) (λ _. tt) (λ _. let k = ltb_false (length s) 3 h in omega arith)))
      (λ _. tt)

  read_shown : 0 < length s → (last : LastCheck) → ((marks : List ℕ) (q : Question) → MarksIn marks → SheetShown (last marks q))
      → (x : Checked Edition) → CheckShown x → SheetShown (edition_read last s x)
  read_shown some last it (fault x at) h = h
  read_shown some last it (read e at) h =
      sides_shown last it e (read_patterns e (suc (length s)) s at open_fields)
      (all_marked e (suc (length s)) at open_fields (none_marked some fields)) (patterns_shown e (suc (length s)) at open_fields)

  stray_shown : (marks : List ℕ) (q : Question) (fs : List ℕ) → MarksIn marks → SheetShown (at_stray marks q fs)
  stray_shown marks q [] m = tt
  stray_shown marks q (f ∷ fs) m = m _

  -- The rule: what reading it gives, and the marks of its patterns.
  abbrev RuleMarked : Rule → Type 0
  RuleMarked r = MarksIn r.fields.marks

  with_side_shown : (fs : Fields) (x : Checked Side) → Marked fs → CheckShown x → RecordsShown (with_side fs x) × Listed RuleMarked (with_side fs x)
  with_side_shown fs (fault x at) m h = (h, tt)
  with_side_shown fs (read side next) m h = (tt, m)

  side_read_shown : (x : Records Fields) → Listed Marked x → RecordsShown x → RecordsShown (side_read s x) × Listed RuleMarked (side_read s x)
  side_read_shown (faulty x at) m h = (h, tt)
  side_read_shown (records fs at) m h = with_side_shown fs (marked_side edition_1 LE s at) m (marked_shown edition_1 LE at)

  abbrev RuleShown : Records Rule → Type 0
  RuleShown x = RecordsShown x × Listed RuleMarked x

  front_shown : RuleShown (rule_front s)
  unfolding rule_front
  front_shown =
      cond_by RuleShown (ltb (length s) 2) (λ _. (refl, tt))
      (λ h. let k = ltb_false (length s) 2 h in
      cond_by RuleShown (marked RU s 0)
      (λ _. side_read_shown (read_patterns edition_1 (suc (length s)) s 2 open_fields)
      (all_marked edition_1 (suc (length s)) 2 open_fields (none_marked (omega arith) fields)) (patterns_shown edition_1 (suc (length s)) 2 open_fields))
      (λ _. (omega arith, tt)))

  end_of_rule_shown : (x : Records Rule) → RuleShown x → RuleShown (rule_end s x)
  end_of_rule_shown (faulty x at) h = h
  end_of_rule_shown (records r next) h =
      cond_by RuleShown (ltb next (length s)) (λ t. let k = ltb_true next (length s) t in (omega arith, tt)) (λ _. h)

  stray_rule_shown : (r : Rule) (next : ℕ) (fs : List ℕ) → RuleMarked r → RecordsShown (rule_at_stray r next fs)
  stray_rule_shown r next [] m = tt
  stray_rule_shown r next (f ∷ fs) m = m f

  checked_shown : (x : Records Rule) → RuleShown x → RecordsShown (rule_checked x)
  checked_shown (faulty x at) h = h.0
  checked_shown (records r next) h = stray_rule_shown r next (rule_strays r) h.1

pub sheet_shown : (s : List ℕ) (x : Fault) (at : ℕ) → read_sheet s ≡ refused x at → Shown s x at
unfolding next_is marked_side edition_front read_by read_sheet
sheet_shown [] x at e = subst (SheetShown []) e refl
sheet_shown (b ∷ t) x at e =
    let s = b ∷ t in
    subst (SheetShown s) e
    (read_shown s (omega arith) stray_check (λ marks q m. stray_shown s marks q (strays q) m) (edition_front s) (edition_shown s))

pub rule_shown : (s : List ℕ) (x : Fault) (at : ℕ) → read_rule s ≡ faulty x at → Shown s x at
unfolding read_rule_before read_rule
rule_shown s x at e = subst (RecordsShown s) e (checked_shown s (rule_end s (rule_front s)) (end_of_rule_shown s (rule_front s) (front_shown s)))
