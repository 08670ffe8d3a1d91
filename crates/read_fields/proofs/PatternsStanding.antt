-- Where a field's pattern stands, what the field may hold, and where its record's mark is.
--   patterns_stand  : read_patterns e (suc (length s)) s at open_fields ≡ records gs next → AllStand e s (bodies_in s at) gs.held
--   patterns_marked : and behind the record's mark, its field byte and its length byte the pattern begins
--   stands_none     : Stands e s b h → b.length ≡ 0 → h ≡ some_text
--   stands_one      : Stands e s b h → 0 < b.length → PatternAt e s b h
--   stands_held     : Stands e s b h → ltb 0 b.length ≡ has_pattern h
-- Where none stands, the field is open. Where one stands, it lies within the bytes, they are judged to be the field's pattern, and are at most 192.
-- Follows from the checks on the records, test by test: both walks go from one record to the next.
use Prim.Native.Nat.{ℕ, zero, suc, ◌+◌, ◌≤◌, ◌<◌}
use native.Mathlib.Omega.{arith}
use mathlib.Core.Path.{◌≡◌, refl, ◌∙◌, subst}
use mathlib.Core.Bool.{◌||◌}
use mathlib.Core.List.{List}
use lib.Dec.{leb, ltb, eqb}
use lib.ListN.{length, get_or, set, length-set, length-replicate, get_or-replicate}
use lib.Seq.{get_or-set_same, get_or-set_other}
use Rattle.paper.specs.Numbers.{fields, pattern_bytes}
use Rattle.paper.specs.Pattern.{Pattern, Held, some_text, pattern}
use Rattle.paper.specs.Written.{Judged, judged, judge}
use Rattle.paper.specs.Written as Written
use Rattle.paper.specs.Alphabet.{Edition}
use Rattle.paper.specs.Sheet.{Checked, fault, read, FieldPattern, byte_at, bytes_left, body_codes, PA, pattern_judged, pattern_record}
use Rattle.paper.specs.Sheet.{next_is, records, Fields, open_fields, with_pattern, pattern_read, read_patterns, has_pattern}
use Rattle.paper.proofs.base.Tests.{cond_by, by_bool, or_left_false, or_right_false, lt_ltb, ltb_false, eqb_true, eqb_false}
use Rattle.paper_laws.proofs.sheets.Asked.{Listed}
use Rattle.base_question.specs.Bodies.{nowhere, no_bodies}
use Rattle.base_question.specs.declared.Body.{Body}
use Rattle.read_fields.specs.Bodies.{body_at, bodies_from, bodies_in}
use Rattle.read_fields.proofs.Reached.{mark_left}

-- What a field may hold, by where its pattern stands.
pub data Stands (e : Edition) (s : List ℕ) : Body → Held → Type 0 where
  no_pattern : Stands e s nowhere some_text
  its_pattern : (b : Body) (p : Pattern) → 0 < b.length → b.start + b.length ≤ length s → judge (body_codes e s b.start b.length) ≡ judged p
      → b.length ≤ pattern_bytes → Stands e s b (pattern p)

-- the pattern that stands there
pub record PatternAt (e : Edition) (s : List ℕ) (b : Body) (h : Held) : Type 0 where
  pub its : Pattern
  pub holds : h ≡ pattern its
  pub within : b.start + b.length ≤ length s
  pub its_bytes : judge (body_codes e s b.start b.length) ≡ judged its
  pub short : b.length ≤ pattern_bytes

-- a caller tests the length
pub stands_none : {e : Edition} {s : List ℕ} {b : Body} {h : Held} → Stands e s b h → b.length ≡ 0 → h ≡ some_text
stands_none no_pattern e = refl
stands_none (its_pattern b p some within e short) z = absurd (omega arith)

pub stands_one : {e : Edition} {s : List ℕ} {b : Body} {h : Held} → Stands e s b h → 0 < b.length → PatternAt e s b h
stands_one no_pattern i = absurd (omega arith)
stands_one (its_pattern b p some within e short) i = record { its = p; holds = refl; within = within; its_bytes = e; short = short }

-- by its length the field has a pattern, or none
pub stands_held : {e : Edition} {s : List ℕ} {b : Body} {h : Held} → Stands e s b h → ltb 0 b.length ≡ has_pattern h
stands_held no_pattern = refl
stands_held (its_pattern b p some within e short) = lt_ltb 0 b.length some

-- what all fields may hold
abbrev pub AllStand : Edition → List ℕ → List Body → List Held → Type 0
AllStand e s bodies held = (f : ℕ) → f < fields → Stands e s (get_or bodies f nowhere) (get_or held f some_text)

-- where the patterns begin, by the marks of their records
abbrev pub AllMarked : List Body → List ℕ → Type 0
AllMarked bodies marks = (f : ℕ) → f < fields → 0 < (get_or bodies f nowhere).length → (get_or bodies f nowhere).start ≡ get_or marks f 0 + 4

-- What the checks on a pattern's record say of the bytes, if they find no fault.
record Whole (e : Edition) (s : List ℕ) (at : ℕ) (fp : FieldPattern) (next : ℕ) : Type 0 where
  field : fp.field ≡ byte_at s (at + 2)
  stands : Stands e s (body_at s at) (pattern fp.its)
  ends : next ≡ at + (4 + byte_at s (at + 3))

abbrev Reads : Edition → List ℕ → ℕ → Checked FieldPattern → Type 0
Reads e s at (fault x place) = Unit {0}
Reads e s at (read fp next) = Whole e s at fp next

judged_reads : (e : Edition) (s : List ℕ) (at : ℕ) (j : Judged) → judge (body_codes e s (at + 4) (byte_at s (at + 3))) ≡ j
    → 0 < byte_at s (at + 3) → byte_at s (at + 3) ≤ pattern_bytes → at + 4 + byte_at s (at + 3) ≤ length s
    → Reads e s at (pattern_judged j (at + 4) (byte_at s (at + 2)) (at + (4 + byte_at s (at + 3))))
judged_reads e s at (Written.not_one_pattern i) j some short there = tt
judged_reads e s at (Written.too_many_leaves i) j some short there = tt
judged_reads e s at (judged p) j some short there =
    record { field = refl; stands = its_pattern (body_at s at) p some there j short; ends = refl }

record_reads : (e : Edition) (s : List ℕ) (at least : ℕ) → at + 2 ≤ length s → Reads e s at (pattern_record e s at least)
unfolding pattern_record
record_reads e s at least mark =
    let f = byte_at s (at + 2) in
    let n = byte_at s (at + 3) in
    cond_by (Reads e s at) (ltb (bytes_left s at) 4) (λ _. tt)
    (λ _. cond_by (Reads e s at) (leb fields f || ltb f least) (λ _. tt)
    (λ _. cond_by (Reads e s at) (eqb n 0 || ltb pattern_bytes n) (λ _. tt)
    (λ j. cond_by (Reads e s at) (ltb (bytes_left s at) (4 + n)) (λ _. tt)
    (λ there.
    let some = eqb_false n 0 (or_left_false (eqb n 0) (ltb pattern_bytes n) j) in
    judged_reads e s at (judge (body_codes e s (at + 4) n)) refl
    (omega (arith, some))
    (ltb_false pattern_bytes n (or_right_false (eqb n 0) (ltb pattern_bytes n) j))
    (omega (arith, mark, ltb_false (bytes_left s at) (4 + n) there))))))

-- the fields that were read, and where their patterns stand
pub record Placed (e : Edition) (s : List ℕ) (bodies : List Body) (fs : Fields) : Type 0 where
  pub each_body : length bodies ≡ fields
  pub each_held : length fs.held ≡ fields
  pub each_mark : length fs.marks ≡ fields
  pub stand : AllStand e s bodies fs.held
  pub marked : AllMarked bodies fs.marks

-- one more field stands
module _ (e : Edition) (s : List ℕ) (bodies : List Body) (fs : Fields) (all : Placed e s bodies fs) (at : ℕ) (fp : FieldPattern) where
  one_more : Stands e s (body_at s at) (pattern fp.its) → Placed e s (set bodies fp.field (body_at s at)) (with_pattern fs at fp)
  one_more w =
      let g = fp.field in
      let b = body_at s at in
      let p = pattern fp.its in
      record {
        each_body = length-set bodies g b ∙ all.each_body;
        each_held = length-set fs.held g p ∙ all.each_held;
        each_mark = length-set fs.marks g at ∙ all.each_mark;
        stand = λ f h.
            by_bool (eqb f g)
            (λ i.
            let same : f ≡ g = eqb_true f g i in
            rw (same, get_or-set_same bodies g b nowhere (omega (arith, all.each_body)), get_or-set_same fs.held g p some_text (omega (arith, all.each_held))) w)
            (λ i.
            let apart = eqb_false f g i in
            rw (get_or-set_other bodies g f b nowhere apart, get_or-set_other fs.held g f p some_text apart) (all.stand f h));
        marked = λ f h.
            by_bool (eqb f g)
            (λ i.
            let same : f ≡ g = eqb_true f g i in
            rw (same, get_or-set_same bodies g b nowhere (omega (arith, all.each_body)), get_or-set_same fs.marks g at 0 (omega (arith, all.each_mark))) (λ k. refl))
            (λ i.
            let apart = eqb_false f g i in
            rw (get_or-set_other bodies g f b nowhere apart, get_or-set_other fs.marks g f at 0 apart) (all.marked f h));
      }

-- the records from an offset on, whatever stood before them
from_placed : (e : Edition) (n : ℕ) (s : List ℕ) (at : ℕ) (fs : Fields) (bodies : List Body) → Placed e s bodies fs
    → Listed (Placed e s (bodies_from n s at bodies)) (read_patterns e n s at fs)
from_placed e zero s at fs bodies all = tt
from_placed e (suc n) s at fs bodies all =
    by_bool (next_is PA s at)
    (λ h. rw h (behind (pattern_record e s at fs.above) (record_reads e s at fs.above (mark_left PA s at h))
    (λ next more standing. from_placed e n s next more standing)))
    (λ h. rw h all)
  where
    behind : (x : Checked FieldPattern) → Reads e s at x
        → ((next : ℕ) (more : Fields) (standing : List Body) → Placed e s standing more
        → Listed (Placed e s (bodies_from n s next standing)) (read_patterns e n s next more))
        → Listed (Placed e s (bodies_from n s (at + (4 + byte_at s (at + 3))) (set bodies (byte_at s (at + 2)) (body_at s at))))
        (pattern_read fs at (read_patterns e n s) x)
    behind (fault x place) w go_on = tt
    behind (read fp next) w go_on =
        rw (← w.ends, ← w.field)
        (go_on next (with_pattern fs at fp) (set bodies fp.field (body_at s at)) (one_more e s bodies fs all at fp w.stands))

none_placed : (e : Edition) (s : List ℕ) → Placed e s no_bodies open_fields
none_placed e s =
    record {
      each_body = length-replicate fields nowhere;
      each_held = length-replicate fields some_text;
      each_mark = length-replicate {A = ℕ} fields 0;
      stand = λ f h. rw (get_or-replicate fields f nowhere nowhere h, get_or-replicate fields f some_text some_text h) no_pattern;
      marked = λ f h. rw (get_or-replicate fields f nowhere nowhere h) (λ k. absurd (omega arith));
    }

all_placed : (e : Edition) (s : List ℕ) (at : ℕ) → Listed (Placed e s (bodies_in s at)) (read_patterns e (suc (length s)) s at open_fields)
unfolding bodies_in
all_placed e s at = from_placed e (suc (length s)) s at open_fields no_bodies (none_placed e s)

module _ (e : Edition) (s : List ℕ) (at : ℕ) {gs : Fields} {next : ℕ} (i : read_patterns e (suc (length s)) s at open_fields ≡ records gs next) where
  placed : Placed e s (bodies_in s at) gs
  placed = subst (Listed (Placed e s (bodies_in s at))) i (all_placed e s at)

  pub patterns_stand : AllStand e s (bodies_in s at) gs.held
  patterns_stand = placed.stand

  pub patterns_marked : AllMarked (bodies_in s at) gs.marks
  patterns_marked = placed.marked
