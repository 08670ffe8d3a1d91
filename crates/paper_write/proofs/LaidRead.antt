-- What laying out record by record meets is what reading the sheet laid out finds.
--   laying_reads : Whole t (laying t) (read_sheet (sheet_laid t))
--   wrong_edition_read : an edition other than 0 and 2 is 44 at place 2
-- A fault is the same, at the same place. Where there is none, all of the sheet is laid out, and it asks what was given.
-- Follows from the checks on the records, test by test, and on strays, field by field (`LaidStrays`). What is left at an offset is all that a check there
-- sees (`Saying`).
use Prim.Native.Nat.{ℕ, zero, suc, ◌+◌, ◌≤◌, ◌<◌}
use native.Mathlib.Nat.{add-zero, zero-add, add_assoc}
use native.Mathlib.Omega.{arith}
use mathlib.Core.Path.{◌≡◌, refl, sym, ap, ◌∙◌, subst}
use mathlib.Core.Bool.{true, false, cond}
use mathlib.Core.List.{List, [], ◌∷◌, ◌++◌, map, append_assoc, append-nil}
use lib.Dec.{leb, ltb, eqb}
use lib.ListN.{length, get_or, take, drop, set, length-append, length-set, length-replicate}
use lib.Seq.{length-take-le, take_at, drop-append_seam, get_or-set_same, get_or-set_other}
use Rattle.paper.specs.Lists.{all, leading}
use Rattle.paper.specs.Numbers.{fields, pattern_bytes, sheet_side}
use Rattle.paper.specs.Pattern.{Pattern, Held, some_text, pattern}
use Rattle.paper.specs.Saying.{pattern_code}
use Rattle.paper.specs.Written.{Judged, judged, judge}
use Rattle.paper.specs.Written as Written
use Rattle.paper.specs.Question.{Question}
use Rattle.paper.specs.Alphabet.{Edition, edition_1, edition_2, alphabet_of, codes, bytes_of}
use Rattle.paper.specs.Equation.{Side}
use Rattle.paper.specs.Sheet.{Fault, cut_short, wrong_field, wrong_length, not_one_pattern, too_many_leaves, wrong_token, wrong_edition, Checked, fault, read}
use Rattle.paper.specs.Sheet.{byte_at, bytes_left, Mark, PA, LE, RI, ED, first_letter, second_letter, marked, pattern_judged}
use Rattle.paper.specs.Sheet.{pattern_record, is_token, token, side_record, next_is, marked_side, Records, faulty, records, Fields, open_fields}
use Rattle.paper.specs.Sheet.{with_pattern, read_patterns, refused, read_end, edition_front, read_sheet}
use Rattle.paper.specs.Sheet.{strays_of, strays, at_stray, read_by}
use Rattle.paper.proofs.base.Tests.{by_bool, cond_by, cond_true, cond_false, leb_true, leb_false, lt_leb, le_leb, ltb_true, ltb_false, le_ltb, lt_ltb}
use Rattle.paper.proofs.base.Tests.{eqb_true, eqb_false, eqb_same, neq_eqb}
use Rattle.paper_laws.proofs.sheets.Asked.{open_by}
use Rattle.paper_laws.proofs.saying.Code.{judged_bytes}
use Rattle.paper_laws.proofs.saying.Saying.{left_there, byte_there, behind_there, none_next, edition_said, not_next}
use Rattle.paper.specs.Saying.{ToSay, mark_bytes, pattern_laid, side_laid, edition_laid, edition_byte, laid_from, sheet_laid, held_code}
use Rattle.paper_write.specs.Writing.{field_bytes}
use Rattle.paper_write.specs.Writing.{Says}
use Rattle.paper_write.specs.Laying.{Laying, at_fault, laid_out, judged_laid, record_laid, side_record_laid, then_laid, fields_laid, then_side}
use Rattle.paper_write.specs.Laying.{strays_laid, then_strays, both_sides, laying_in, laying}
use Rattle.paper_write.proofs.LaidStrays.{StraysAs, LaidAs, none_laid, open_laid, with_laid}

-- A mark at an offset.
mark_at : (m : Mark) (s : List ℕ) (at : ℕ) (t : List ℕ) → drop at s ≡ first_letter m ∷ second_letter m ∷ t → marked m s at ≡ true
unfolding marked
mark_at m s at t e =
    let all = first_letter m ∷ second_letter m ∷ t in
    let first : byte_at s at ≡ first_letter m = ap (byte_at s) (sym (add-zero at)) ∙ byte_there s at all e 0 in
    rw (first, byte_there s at all e 1, eqb_same (first_letter m), eqb_same (second_letter m))

-- the fields from f on are still open
record Open (fs : Fields) (f : ℕ) : Type 0 where
  every : length fs.held ≡ fields
  every_mark : length fs.marks ≡ fields
  rises : fs.above ≤ f
  later : (i : ℕ) → f ≤ i → get_or fs.held i some_text ≡ some_text

open_more : {fs : Fields} {f : ℕ} → Open fs f → Open fs (suc f)
open_more {fs} {f} o =
    let r = o.rises in record { every = o.every; every_mark = o.every_mark; rises = omega arith; later = λ (i : ℕ) (h : suc f ≤ i). o.later i (omega arith) }

open_with : {fs : Fields} {f : ℕ} (p : Pattern) (at : ℕ) → Open fs f → Open (with_pattern fs at (record { field = f; its = p })) (suc f)
open_with {fs} {f} p at o =
    record {
      every = length-set fs.held f (pattern p) ∙ o.every;
      every_mark = length-set fs.marks f at ∙ o.every_mark;
      rises = omega arith;
      later = λ (i : ℕ) (h : suc f ≤ i).
          get_or-set_other fs.held f i (pattern p) some_text (λ (e : i ≡ f). omega arith) ∙ o.later i (omega arith);
    }

next_field : (f j : ℕ) → f + suc j ≡ suc f + j
next_field f j = omega arith

-- In an edition.
module _ (ed : Edition) where
  -- A pattern's record: each way in which its checks end.
  module _ (s : List ℕ) (at f n : ℕ) (code rest : List ℕ) (e : drop at s ≡ pattern_laid f n code ++ rest) where
    abbrev t : List ℕ
    t = pattern_laid f n code ++ rest

    next_there : next_is PA s at ≡ true
    unfolding next_is
    next_there = rw (left_there s at t e, le_ltb (length t) 2 (omega arith)) (mark_at PA s at (f ∷ n ∷ code ++ rest) e)

    module _ (least : ℕ) where
      field_fault : fields ≤ f → pattern_record ed s at least ≡ fault wrong_field (at + 2)
      unfolding pattern_record
      field_fault h = rw (left_there s at t e, byte_there s at t e 2, le_ltb (length t) 4 (omega arith), le_leb fields f h)

      module _ (known : f < fields) (rises : least ≤ f) where
        length_fault : pattern_bytes < n → pattern_record ed s at least ≡ fault wrong_length (at + 3)
        unfolding pattern_record
        length_fault h =
            rw (
              left_there s at t e,
              byte_there s at t e 2,
              byte_there s at t e 3,
              le_ltb (length t) 4 (omega arith),
              lt_leb fields f known,
              le_ltb f least rises,
              neq_eqb n 0 (λ (z : n ≡ 0). omega arith),
              lt_ltb pattern_bytes n h,
            )

        module _ (some : 0 < n) (short : n ≤ pattern_bytes) where
          cut_fault : length (code ++ rest) < n → pattern_record ed s at least ≡ fault cut_short (length s)
          unfolding pattern_record
          cut_fault h =
              rw (
                left_there s at t e,
                byte_there s at t e 2,
                byte_there s at t e 3,
                le_ltb (length t) 4 (omega arith),
                lt_leb fields f known,
                le_ltb f least rises,
                neq_eqb n 0 (λ (z : n ≡ 0). omega arith),
                le_ltb pattern_bytes n short,
                lt_ltb (length t) (4 + n) (omega arith),
              )

          judged_there : length code ≡ n → pattern_record ed s at least ≡ pattern_judged (judge (codes ed code)) (at + 4) f (at + (4 + n))
          unfolding pattern_record
          judged_there l =
              let sum = length-append code rest in
              rw (
                left_there s at t e,
                byte_there s at t e 2,
                byte_there s at t e 3,
                behind_there s at t e 4,
                le_ltb (length t) 4 (omega arith),
                lt_leb fields f known,
                le_ltb f least rises,
                neq_eqb n 0 (λ (z : n ≡ 0). omega arith),
                le_ltb pattern_bytes n short,
                le_ltb (length t) (4 + n) (omega arith),
                take_at code rest n l,
              )

  -- A side's record.
  module _ (m : Mark) (s : List ℕ) (at : ℕ) (tokens rest : List ℕ) (e : drop at s ≡ side_laid m tokens ++ rest) where
    abbrev side_bytes : List ℕ
    side_bytes = side_laid m tokens ++ rest

    marked_there : marked_side ed m s at ≡ side_record ed s at
    unfolding marked_side
    marked_there =
        rw (left_there s at side_bytes e, le_ltb (length side_bytes) 2 (omega arith), mark_at m s at (length tokens ∷ tokens ++ rest) e)

    side_long : sheet_side < length tokens → marked_side ed m s at ≡ fault wrong_length (at + 2)
    unfolding side_record
    side_long h =
        marked_there
        ∙ rw (left_there s at side_bytes e, byte_there s at side_bytes e 2, le_ltb (length side_bytes) 3 (omega arith), lt_ltb sheet_side (length tokens) h)

    module _ (short : length tokens ≤ sheet_side) where
      side_judged : marked_side ed m s at
          ≡ cond (all is_token (codes ed tokens)) (read (map token (codes ed tokens)) (at + (3 + length tokens))) (fault wrong_token (at + 3 + leading is_token (codes ed tokens)))
      unfolding side_record
      side_judged =
          let sum = length-append tokens rest in
          marked_there
          ∙ rw (
            left_there s at side_bytes e,
            byte_there s at side_bytes e 2,
            behind_there s at side_bytes e 3,
            le_ltb (length side_bytes) 3 (omega arith),
            le_ltb sheet_side (length tokens) short,
            le_ltb (length side_bytes) (3 + length tokens) (omega arith),
            take_at tokens rest (length tokens) refl,
          )

  -- What reading the patterns' records finds, where what is left of the fields from f on was laid out behind those read.
  pub record FieldsRead (s rest : List ℕ) (f : ℕ) (lengths patterns : List ℕ) (fs : Fields) (at : ℕ) (done : List ℕ) (r : Records Fields) : Type 0 where
    pub its : Fields
    pub reads : r ≡ records its (length done)
    pub whole : s ≡ done ++ rest
    pub here : (j : ℕ) → held_code ed (get_or its.held (f + j) some_text) ≡ field_bytes lengths patterns j
    pub before : (i : ℕ) → i < f → get_or its.held i some_text ≡ get_or fs.held i some_text
    pub marks_before : (i : ℕ) → i < f → get_or its.marks i 0 ≡ get_or fs.marks i 0
    -- the last check, behind whatever is done by then
    pub strays : (side : Side) (all : List ℕ) → LaidAs its side all f (strays_laid side all at f lengths)

  abbrev Reached : List ℕ → List ℕ → ℕ → List ℕ → List ℕ → Fields → ℕ → Laying → Records Fields → Type 0
  Reached s rest f lengths patterns fs at (at_fault x place) r = r ≡ faulty x place
  Reached s rest f lengths patterns fs at (laid_out done) r = FieldsRead s rest f lengths patterns fs at done r

  -- a field without a pattern
  skipped : (s rest : List ℕ) (f n : ℕ) (lengths patterns : List ℕ) (fs : Fields) (at : ℕ) (w : Laying) (r : Records Fields) → n ≡ 0 → Open fs f
      → Reached s rest (suc f) lengths patterns fs at w r → Reached s rest f (n ∷ lengths) patterns fs at w r
  skipped s rest f n lengths patterns fs at (at_fault x place) r z o h = h
  skipped s rest f n lengths patterns fs at (laid_out done) r z o h =
      record {
        its = h.its;
        reads = h.reads;
        whole = h.whole;
        here = each_one;
        before = λ (i : ℕ) (k : i < f). h.before i (omega arith);
        marks_before = λ (i : ℕ) (k : i < f). h.marks_before i (omega arith);
        strays = λ side all. rw z (open_laid h.its side all f (strays_laid side all at (suc f) lengths) still_open (h.strays side all));
      }
    where
      still_open : get_or h.its.held f some_text ≡ some_text
      still_open = h.before f (omega arith) ∙ o.later f (omega arith)

      each_one : (j : ℕ) → held_code ed (get_or h.its.held (f + j) some_text) ≡ field_bytes (n ∷ lengths) patterns j
      each_one zero = rw (add-zero f, still_open, z)
      each_one (suc j) = rw (next_field f j, z) (h.here j)

  -- a field with a pattern
  module _ (s rest : List ℕ) (f n : ℕ) (lengths patterns : List ℕ) (fs : Fields) (at : ℕ) (p : Pattern) (known : f < fields) (some : 0 < n) (o : Open fs f) (code : bytes_of ed (pattern_code p) ≡ take n patterns) where
    with_it : (w : Laying) (r : Records Fields) → Reached s rest (suc f) lengths (drop n patterns) (with_pattern fs at (record { field = f; its = p })) (at + (4 + n)) w r
        → Reached s rest f (n ∷ lengths) patterns fs at w r
    with_it (at_fault x place) r h = h
    with_it (laid_out done) r h =
        record {
          its = h.its;
          reads = h.reads;
          whole = h.whole;
          here = each_one;
          before = λ (i : ℕ) (k : i < f).
              h.before i (omega arith) ∙ get_or-set_other fs.held f i (pattern p) some_text (λ (e : i ≡ f). omega arith);
          marks_before = λ (i : ℕ) (k : i < f).
              h.marks_before i (omega arith) ∙ get_or-set_other fs.marks f i at 0 (λ (e : i ≡ f). omega arith);
          strays = λ side all.
              rw (neq_eqb n 0 (λ (z : n ≡ 0). omega arith))
              (with_laid h.its side all f (strays_laid side all (at + (4 + n)) (suc f) lengths) p at known now_held
              (h.marks_before f (omega arith) ∙ get_or-set_same fs.marks f at 0 (omega (arith, o.every_mark))) (h.strays side all));
        }
      where
        now_held : get_or h.its.held f some_text ≡ pattern p
        now_held = h.before f (omega arith) ∙ get_or-set_same fs.held f (pattern p) some_text (omega (arith, o.every))

        each_one : (j : ℕ) → held_code ed (get_or h.its.held (f + j) some_text) ≡ field_bytes (n ∷ lengths) patterns j
        each_one zero = rw (add-zero f, now_held) code
        each_one (suc j) = rw (next_field f j) (h.here j)

  -- One field that has a pattern, where the records behind it are read as they were laid out.
  module _ (k : ℕ) (s rest : List ℕ) (f n : ℕ) (lengths done patterns : List ℕ) (fs : Fields) (o : Open fs f) (some : 0 < n) where
    abbrev behind : List ℕ
    behind = laid_from (suc f) lengths (drop n patterns) rest

    abbrev code : List ℕ
    code = take n patterns

    abbrev ReadAs : Laying → Type 0
    ReadAs w = Reached s rest f (n ∷ lengths) patterns fs (length done) w (read_patterns ed (suc k) s (length done) fs)

    abbrev Further : List ℕ → Fields → Type 0
    Further done more =
        Reached s rest (suc f) lengths (drop n patterns) more (length done) (fields_laid ed done (suc f) lengths (drop n patterns)) (read_patterns ed k s (length done) more)

    abbrev go_on : List ℕ → Laying
    go_on more = fields_laid ed more (suc f) lengths (drop n patterns)

    stop_read : (some-code more : List ℕ) → drop (length done) s ≡ pattern_laid f n some-code ++ more → (x : Fault) (at : ℕ)
        → pattern_record ed s (length done) fs.above ≡ fault x at → ReadAs (at_fault x at)
    stop_read some-code more e x at h = rw (next_there s (length done) f n some-code more e, h)

    judged_read : (known : f < fields) → drop (length done) s ≡ pattern_laid f n code ++ behind → length code ≡ n
        → (j : Judged) → judge (codes ed code) ≡ j
        → pattern_record ed s (length done) fs.above ≡ pattern_judged j (length done + 4) f (length done + (4 + n))
        → ((p : Pattern) → Further (done ++ pattern_laid f n code) (with_pattern fs (length done) (record { field = f; its = p })))
        → ReadAs (then_laid done (judged_laid j f n code) go_on)
    judged_read known e l (Written.not_one_pattern i) q h next = stop_read code behind e not_one_pattern (length done + (4 + i)) (h ∙ ap (fault not_one_pattern) (add_assoc (length done) 4 i))
    judged_read known e l (Written.too_many_leaves i) q h next = stop_read code behind e too_many_leaves (length done + (4 + i)) (h ∙ ap (fault too_many_leaves) (add_assoc (length done) 4 i))
    judged_read known e l (judged p) q h next =
        let there : length (done ++ pattern_laid f n code) ≡ length done + (4 + n) = omega (arith, length-append done (pattern_laid f n code), l) in
        rw (next_there s (length done) f n code behind e, h)
        (with_it s rest f n lengths patterns fs (length done) p known some o (judged_bytes ed code q) (go_on (done ++ pattern_laid f n code))
        (read_patterns ed k s (length done + (4 + n)) (with_pattern fs (length done) (record { field = f; its = p })))
        (rw there at (next p)))

    -- the records from this field on: all of its bytes are there, or not
    abbrev cut : List ℕ
    cut = pattern_laid f n patterns

    abbrev whole : List ℕ
    whole = pattern_laid f n code ++ behind

    field_read : (e : s ≡ done ++ cond (ltb (length patterns) n) cut whole)
        → (n ≤ length patterns → (p : Pattern) → Further (done ++ pattern_laid f n code) (with_pattern fs (length done) (record { field = f; its = p })))
        → ReadAs (then_laid done (record_laid ed f n patterns) go_on)
    unfolding record_laid
    field_read e next =
        by_bool (ltb (length patterns) n)
        (λ m. let ends : s ≡ done ++ cut = e ∙ ap (λ (l : List ℕ). done ++ l) (cond_true (ltb (length patterns) n) cut whole m) in
        let here = there patterns [] (ends ∙ ap (λ (l : List ℕ). done ++ l) (sym (append-nil cut))) in
        let sum : length s ≡ length done + (4 + length patterns) = omega (arith, ap length ends, length-append done cut) in
        checks patterns [] here
        (λ known short. rw m
        (stop_read patterns [] here cut_short (length done + (4 + length patterns))
        (cut_fault s (length done) f n patterns [] here fs.above known o.rises some short
        (omega (arith, ltb_true (length patterns) n m, ap length (append-nil patterns)))
        ∙ ap (fault cut_short) sum))))
        (λ m. let all = ltb_false (length patterns) n m in
        let its_length = length-take-le n patterns all in
        let here = there code behind (e ∙ ap (λ (l : List ℕ). done ++ l) (cond_false (ltb (length patterns) n) cut whole m)) in
        checks code behind here
        (λ known short. rw m
        (judged_read known here its_length (judge (codes ed code)) refl
        (judged_there s (length done) f n code behind here fs.above known o.rises some short its_length)
        (next all))))
      where
        there : (some-code more : List ℕ) → s ≡ done ++ (pattern_laid f n some-code ++ more) → drop (length done) s ≡ pattern_laid f n some-code ++ more
        there some-code more d = ap (drop (length done)) d ∙ drop-append_seam done (pattern_laid f n some-code ++ more)

        checks : (some-code more : List ℕ) → drop (length done) s ≡ pattern_laid f n some-code ++ more
            → (f < fields → n ≤ pattern_bytes
            → ReadAs (then_laid done (cond (ltb (length patterns) n) (at_fault cut_short (4 + length patterns)) (judged_laid (judge (codes ed code)) f n code)) go_on))
            → ReadAs (then_laid done (record_laid ed f n patterns) go_on)
        checks some-code more d further =
            by_bool (leb fields f)
            (λ a. rw a (stop_read some-code more d wrong_field (length done + 2) (field_fault s (length done) f n some-code more d fs.above (leb_true fields f a))))
            (λ a. by_bool (ltb pattern_bytes n)
            (λ b. rw (a, b) (stop_read some-code more d wrong_length (length done + 3)
            (length_fault s (length done) f n some-code more d fs.above (leb_false fields f a) o.rises (ltb_true pattern_bytes n b))))
            (λ b. rw (a, b) (further (leb_false fields f a) (ltb_false pattern_bytes n b))))

  -- All fields from f on.
  fields_read : (lengths : List ℕ) (k : ℕ) (s rest : List ℕ) (f : ℕ) (done patterns : List ℕ) (fs : Fields)
      → s ≡ done ++ laid_from f lengths patterns rest → marked PA rest 0 ≡ false → length (laid_from f lengths patterns rest) < k → Open fs f
      → Reached s rest f lengths patterns fs (length done) (fields_laid ed done f lengths patterns) (read_patterns ed k s (length done) fs)
  fields_read [] zero s rest f done patterns fs e u l o = absurd (omega arith)
  fields_read [] (suc k) s rest f done patterns fs e u l o =
      record {
        its = fs;
        reads = rw (none_next s (length done) rest (ap (drop (length done)) e ∙ drop-append_seam done rest) u);
        whole = e;
        here = λ j. ap (held_code ed) (o.later (f + j) (omega arith));
        before = λ i h. refl;
        marks_before = λ i h. refl;
        strays = λ side all. none_laid fs side all f o.later;
      }
  fields_read (n ∷ lengths) zero s rest f done patterns fs e u l o = absurd (omega arith)
  fields_read (n ∷ lengths) (suc k) s rest f done patterns fs e u l o =
      let none = laid_from (suc f) lengths patterns rest in
      let behind = laid_from (suc f) lengths (drop n patterns) rest in
      let record_bytes = pattern_laid f n (take n patterns) in
      let some = cond (ltb (length patterns) n) (pattern_laid f n patterns) (record_bytes ++ behind) in
      by_bool (eqb n 0)
      (λ z. let same : laid_from f (n ∷ lengths) patterns rest ≡ none = cond_true (eqb n 0) none some z in
      rw z
      (skipped s rest f n lengths patterns fs (length done) (fields_laid ed done (suc f) lengths patterns) (read_patterns ed (suc k) s (length done) fs)
      (eqb_true n 0 z) o
      (fields_read lengths (suc k) s rest (suc f) done patterns fs (e ∙ ap (λ (t : List ℕ). done ++ t) same) u (omega (arith, ap length same)) (open_more o))))
      (λ z. let same : laid_from f (n ∷ lengths) patterns rest ≡ some = cond_false (eqb n 0) none some z in
      rw z
      (field_read k s rest f n lengths done patterns fs o (some_bytes n z) (e ∙ ap (λ (t : List ℕ). done ++ t) same)
      (λ all p. let whole : some ≡ record_bytes ++ behind = cond_false (ltb (length patterns) n) (pattern_laid f n patterns) (record_bytes ++ behind) (le_ltb (length patterns) n all) in
      fields_read lengths k s rest (suc f) (done ++ record_bytes) (drop n patterns) (with_pattern fs (length done) (record { field = f; its = p }))
      (e ∙ ap (λ (t : List ℕ). done ++ t) (same ∙ whole) ∙ sym (append_assoc done record_bytes behind)) u
      (omega (arith, ap length (same ∙ whole), length-append record_bytes behind)) (open_with p (length done) o))))
    where
      some_bytes : (n : ℕ) → eqb n 0 ≡ false → 0 < n
      some_bytes zero z = absurd (eqb_false 0 0 z refl)
      some_bytes (suc n) z = omega arith

  -- A side behind what was laid out.
  abbrev SideAs : List ℕ → List ℕ → List ℕ → List ℕ → Laying → Checked Side → Type 0
  SideAs s done tokens rest (at_fault x at) c = c ≡ fault x (length done + at)
  SideAs s done tokens rest (laid_out bytes) c = (c ≡ read (map token (codes ed tokens)) (length (done ++ bytes))) × (s ≡ (done ++ bytes) ++ rest)

  side_read_as : (m : Mark) (s done tokens rest : List ℕ) → s ≡ done ++ (side_laid m tokens ++ rest)
      → SideAs s done tokens rest (side_record_laid ed m tokens) (marked_side ed m s (length done))
  unfolding side_record_laid
  side_read_as m s done tokens rest e =
      by_bool (ltb sheet_side (length tokens))
      (λ h. rw h (side_long m s (length done) tokens rest here (ltb_true sheet_side (length tokens) h)))
      (λ h. let judged = side_judged m s (length done) tokens rest here (ltb_false sheet_side (length tokens) h) in
      by_bool (all is_token (codes ed tokens))
      (λ a. rw (h, a) (judged ∙ rw a (ap (read (map token (codes ed tokens))) (sym sum)), e ∙ sym (append_assoc done (side_laid m tokens) rest)))
      (λ a. rw (h, a) (judged ∙ rw a (ap (fault wrong_token) (add_assoc (length done) 3 (leading is_token (codes ed tokens)))))))
    where
      here : drop (length done) s ≡ side_laid m tokens ++ rest
      here = ap (drop (length done)) e ∙ drop-append_seam done (side_laid m tokens ++ rest)

      sum : length (done ++ side_laid m tokens) ≡ length done + (3 + length tokens)
      sum = omega (arith, length-append done (side_laid m tokens))

-- In front of all records stands the edition's, or none.
none_but_patterns : (lengths : List ℕ) (f : ℕ) (patterns rest : List ℕ) → next_is ED rest 0 ≡ false → next_is ED (laid_from f lengths patterns rest) 0 ≡ false
unfolding marked
none_but_patterns [] f patterns rest h = h
none_but_patterns (n ∷ lengths) f patterns rest h =
    let code = take n patterns in
    let behind = laid_from (suc f) lengths (drop n patterns) rest in
    cond_by (λ (l : List ℕ). next_is ED l 0 ≡ false) (eqb n 0) (λ _. none_but_patterns lengths (suc f) patterns rest h)
    (λ _. cond_by (λ (l : List ℕ). next_is ED l 0 ≡ false) (ltb (length patterns) n)
    (λ _. not_next ED (pattern_laid f n patterns) refl)
    (λ _. not_next ED (pattern_laid f n code ++ behind) refl))

wrong_front : (n : ℕ) (t : List ℕ) → eqb n 0 ≡ false → eqb n 2 ≡ false → edition_front (edition_laid n ++ t) ≡ fault wrong_edition 2
unfolding edition_front next_is marked
wrong_front n t none other =
    let s = mark_bytes ED ++ n ∷ t in rw (none, le_ltb (bytes_left s 0) 2 (omega arith), le_ltb (length s) 3 (omega arith), other)

-- All of it.
abbrev pub Whole : ToSay → Laying → Type 0
Whole t (at_fault x at) = read_sheet (sheet_laid t) ≡ refused x at
Whole t (laid_out bytes) = (bytes ≡ sheet_laid t) × Says t (sheet_laid t)

module _ (t : ToSay) where
  abbrev s : List ℕ
  s = sheet_laid t

  abbrev left_bytes : List ℕ
  left_bytes = side_laid LE t.left

  abbrev right_bytes : List ℕ
  right_bytes = side_laid RI t.right

  -- what stands behind the edition's record
  abbrev records_bytes : List ℕ
  records_bytes = laid_from 0 t.lengths t.patterns (left_bytes ++ right_bytes)

  not_a_pattern : marked PA (left_bytes ++ right_bytes) 0 ≡ false
  unfolding marked
  not_a_pattern = refl

  not_an_edition : next_is ED records_bytes 0 ≡ false
  unfolding marked
  not_an_edition = none_but_patterns t.lengths 0 t.patterns (left_bytes ++ right_bytes) (not_next ED (left_bytes ++ right_bytes) refl)

  -- "44 at place 2 for any other than 2"
  pub wrong_edition_read : eqb t.edition 0 ≡ false → eqb t.edition 2 ≡ false → read_sheet s ≡ refused wrong_edition 2
  unfolding read_by read_sheet sheet_laid
  wrong_edition_read none other = rw (wrong_front t.edition records_bytes none other)

  module _ (ed : Edition) (given : t.edition ≡ edition_byte ed) where
    abbrev in_front : List ℕ
    in_front = edition_laid (edition_byte ed)

    its_parts : s ≡ in_front ++ records_bytes
    unfolding sheet_laid
    its_parts = ap (λ (n : ℕ). edition_laid n ++ records_bytes) given

    its_front : edition_front s ≡ read ed (length in_front)
    its_front = ap edition_front its_parts ∙ edition_said ed records_bytes not_an_edition

    abbrev all_patterns : Records Fields
    all_patterns = read_patterns ed (suc (length s)) s (length in_front) open_fields

    abbrev PatternsRead : List ℕ → Type 0
    PatternsRead done = FieldsRead ed s (left_bytes ++ right_bytes) 0 t.lengths t.patterns open_fields (length in_front) done all_patterns

    -- the question that is asked, with what the fields may hold
    abbrev its_question : List Held → Question
    its_question held = record { alphabet = alphabet_of ed; left = map token (codes ed t.left); right = map token (codes ed t.right); held = held }

    -- the last check, behind all of the sheet
    abbrev checked : Laying → Laying
    checked w = then_strays (both_sides ed t.left t.right) (length in_front) t.lengths w

    strays_whole : (fs : Fields) (done : List ℕ) → done ≡ s
        → ((f : ℕ) → held_code ed (get_or fs.held f some_text) ≡ field_bytes t.lengths t.patterns f)
        → (found : List ℕ) → read_sheet s ≡ at_stray fs.marks (its_question fs.held) found → (w : Laying) → StraysAs fs done found w → Whole t w
    strays_whole fs done same patterns [] reads w h =
        subst (Whole t) (sym h) (
          same,
          record {
            edition = ed;
            same_edition = sym given;
            question = its_question fs.held;
            asks = reads;
            same_alphabet = refl;
            same_left = refl;
            same_right = refl;
            same_patterns = patterns;
          },
        )
    strays_whole fs done same patterns (f ∷ found) reads w h = subst (Whole t) (sym h) reads

    right_whole : (done more : List ℕ) (h : PatternsRead done) → marked_side ed LE s (length done) ≡ read (map token (codes ed t.left)) (length more)
        → (w : Laying) → SideAs ed s more t.right [] w (marked_side ed RI s (length more)) → Whole t (checked (then_laid more w laid_out))
    unfolding read_by read_sheet read_end strays_of
    right_whole done more h l (at_fault x at) r = rw (its_front, h.reads, l, r)
    right_whole done more h l (laid_out bytes) r =
        let all = r.1 ∙ append-nil (more ++ bytes) in
        let fs = h.its in
        strays_whole fs (more ++ bytes) (sym all) (λ f. ap (λ (i : ℕ). held_code ed (get_or fs.held i some_text)) (sym (zero-add f)) ∙ h.here f)
        (strays (its_question fs.held))
        (rw (its_front, h.reads, l, r.0, le_ltb (length (more ++ bytes)) (length s) (omega (arith, ap length all))))
        (checked (laid_out (more ++ bytes))) (h.strays (both_sides ed t.left t.right) (more ++ bytes) fields (omega arith))

    left_whole : (done : List ℕ) (h : PatternsRead done) (w : Laying) → SideAs ed s done t.left right_bytes w (marked_side ed LE s (length done))
        → Whole t (checked (then_side ed RI t.right (then_laid done w laid_out)))
    unfolding read_by read_sheet
    left_whole done h (at_fault x at) l = rw (its_front, h.reads, l)
    left_whole done h (laid_out bytes) l =
        let more = done ++ bytes in
        right_whole done more h l.0 (side_record_laid ed RI t.right)
        (side_read_as ed RI s more t.right [] (l.1 ∙ ap (λ (b : List ℕ). more ++ b) (sym (append-nil right_bytes))))

    fields_whole : (w : Laying) → Reached ed s (left_bytes ++ right_bytes) 0 t.lengths t.patterns open_fields (length in_front) w all_patterns
        → Whole t (checked (then_side ed RI t.right (then_side ed LE t.left w)))
    unfolding read_by read_sheet
    fields_whole (at_fault x at) h = rw (its_front, h)
    fields_whole (laid_out done) h =
        left_whole done h (side_record_laid ed LE t.left) (side_read_as ed LE s done t.left right_bytes h.whole)

    none_read : Open open_fields 0
    none_read =
        record {
          every = length-replicate fields some_text;
          every_mark = length-replicate {A = ℕ} fields 0;
          rises = omega arith;
          later = λ i h. open_by (λ (x : Held). x ≡ some_text) refl fields i;
        }

    reads_in : Whole t (laying_in ed t)
    unfolding laying_in
    reads_in =
        fields_whole (fields_laid ed in_front 0 t.lengths t.patterns)
        (fields_read ed t.lengths (suc (length s)) s (left_bytes ++ right_bytes) 0 in_front t.patterns open_fields its_parts not_a_pattern
        (omega (arith, ap length its_parts, length-append in_front records_bytes)) none_read)

  pub laying_reads : Whole t (laying t)
  unfolding laying
  laying_reads =
      cond_by (Whole t) (eqb t.edition 0) (λ z. reads_in edition_1 (eqb_true t.edition 0 z))
      (λ z. cond_by (Whole t) (eqb t.edition 2) (λ y. reads_in edition_2 (eqb_true t.edition 2 y)) (λ y. wrong_edition_read z y))
