-- How far the patterns' records are put: what is put and what is left are those of all fields. The start, one more, the end.
-- Follows from the definition of what is laid out, field by field, and from how long a record is.
use Prim.Native.Nat.{ℕ, suc, ◌+◌, ◌*◌, ◌≤◌, ◌<◌}
use native.Mathlib.Nat.{add-zero}
use native.Mathlib.Numerals.{add-one}
use native.Mathlib.Omega.{arith}
use mathlib.Core.Path.{◌≡◌, refl, sym, ap, ap₂, ◌∙◌, subst}
use mathlib.Core.List.{List, [], ◌∷◌, ◌++◌, append_assoc, append-nil}
use lib.Dec.{leb, eqb}
use lib.ListN.{length, get_or, drop, length-append, length-drop, drop_of_length-le}
use lib.Seq.{drop-drop, drop-cons}
use Rattle.paper.specs.Numbers.{fields, pattern_bytes}
use Rattle.paper.specs.Alphabet.{Edition}
use Rattle.paper.proofs.base.Tests.{by_bool, cond_by, leb_true, leb_false, eqb_true}
use Rattle.paper_write.specs.Laying.{Laying, at_fault, laid_out, record_laid, then_laid, fields_laid}
use Rattle.paper_write.proofs.LaidShort.{RecordShort, record_short}
use Rattle.base_answers.specs.Faults.{as_fault}
use Rattle.std.proofs.Common.{Result, Ok, Err}
use Rattle.base_answers.specs.declared.Refusal.{Refusal}
use Rattle.base_put.specs.Counted.{put_from}
use Rattle.write_records.specs.RecordPut.{field_laid, Lays, refused, put}
use Rattle.write_sheet.specs.SheetWritten.{span, moved, PatternsLaid}
use Rattle.write_sheet.proofs.SheetPut.{from_at, from_both, span_moved}

-- a field without a pattern lays out nothing
fields_step : (ed : Edition) (done : List ℕ) (f n : ℕ) (lengths patterns : List ℕ)
    → then_laid done (field_laid ed f n patterns) (λ (more : List ℕ). fields_laid ed more (suc f) lengths (drop n patterns))
    ≡ fields_laid ed done f (n ∷ lengths) patterns
unfolding field_laid
fields_step ed done f n lengths patterns =
    by_bool (eqb n 0)
    (λ z. rw z (ap₂ (λ (a b : List ℕ). fields_laid ed a (suc f) lengths b) (append-nil done) (ap (λ (k : ℕ). drop k patterns) (eqb_true n 0 z))))
    (λ z. rw z)

-- how long it is; beyond the last field nothing is laid out
abbrev FieldShort : ℕ → ℕ → List ℕ → Laying → Type 0
FieldShort f n patterns (at_fault x at) = at ≤ 4 + pattern_bytes
FieldShort f n patterns (laid_out bytes) = (length bytes ≤ 4 + pattern_bytes) × (fields ≤ f → length bytes ≡ 0) × (n ≤ length patterns)

field_short : (ed : Edition) (f n : ℕ) (patterns : List ℕ) → FieldShort f n patterns (field_laid ed f n patterns)
unfolding field_laid
field_short ed f n patterns =
    cond_by (FieldShort f n patterns) (eqb n 0)
    (λ z. (omega arith, λ _. refl, omega (arith, eqb_true n 0 z)))
    (λ _. of_record (record_laid ed f n patterns) (record_short ed f n patterns))
  where
    of_record : (w : Laying) → RecordShort f n patterns w → FieldShort f n patterns w
    of_record (at_fault x at) h = h
    of_record (laid_out bytes) h = let known = h.1 in (h.0, λ (k : fields ≤ f). absurd (omega arith), h.2)

-- before the field f; the bytes of its pattern begin at `from`, and what is put from `start` on
pub record Going (ed : Edition) (lengths patterns before out : List ℕ) (start at from f : ℕ) : Type 0 where
  pub done : List ℕ
  pub its_length : at ≡ start + length done
  pub bytes : out ≡ put_from before start done
  -- whatever stands in front
  pub left : (front : List ℕ) → fields_laid ed (front ++ done) f (drop f lengths) (drop from patterns) ≡ fields_laid ed front 0 lengths patterns
  pub within : from ≤ length patterns
  pub low : at ≤ start + f * (4 + pattern_bytes)
  pub most : at ≤ start + fields * (4 + pattern_bytes)

pub going_start : (ed : Edition) (lengths patterns out : List ℕ) (start : ℕ) → Going ed lengths patterns out out start start 0 0
going_start ed lengths patterns out start =
    record {
      done = [];
      its_length = sym (add-zero start);
      bytes = refl;
      left = λ front. ap (λ (l : List ℕ). fields_laid ed l 0 lengths patterns) (append-nil front);
      within = omega arith;
      low = omega arith;
      most = omega arith;
    }

module _ {ed : Edition} {lengths patterns before out : List ℕ} {start at from f : ℕ} (g : Going ed lengths patterns before out start at from f) (short : start ≤ 3) where
  -- how long what stands in front is, with what was put
  all_length : (front : List ℕ) → start ≡ length front → at ≡ length (front ++ g.done)
  all_length front s = omega (arith, s, g.its_length, length-append front g.done)

  pub going_ends : length lengths ≤ f → PatternsLaid ed lengths patterns before out start (Ok at)
  going_ends h d front s p =
      subst (Lays d out 0 (Ok at))
      (ap (λ (l : List ℕ). fields_laid ed (front ++ g.done) f l (drop from patterns)) (sym (drop_of_length-le lengths {i = f} h)) ∙ g.left front)
      (put (front ++ g.done) (ap (λ (n : ℕ). Ok n) (all_length front s))
      (from_both d before front g.done p (g.bytes ∙ ap (λ (n : ℕ). put_from before n g.done) s) (omega (arith, s))))

  module _ (h : f < length lengths) (n : ℕ) (is : n ≡ get_or lengths f 0) (its : Result ℕ Refusal) where
    abbrev rest : List ℕ
    rest = drop from patterns

    abbrev go_on : List ℕ → Laying
    go_on more = fields_laid ed more (suc f) (drop (suc f) lengths) (drop n rest)

    -- what comes behind it, whatever it lays out
    behind : {v : Laying} → v ≡ field_laid ed f n rest → (front : List ℕ) → then_laid (front ++ g.done) v go_on ≡ fields_laid ed front 0 lengths patterns
    behind e front =
        let so_far = front ++ g.done in
        ap (λ (w : Laying). then_laid so_far w go_on) e ∙ fields_step ed so_far f n (drop (suc f) lengths) rest
        ∙ ap (λ (l : List ℕ). fields_laid ed so_far f l rest) (ap (λ (k : ℕ). k ∷ drop (suc f) lengths) is ∙ sym (drop-cons lengths f 0 h))
        ∙ g.left front

    its_span : {after : List ℕ} {v : Laying} → v ≡ field_laid ed f n rest → Lays out after at its v → span its ≤ 4 + pattern_bytes
    its_span e (refused x place r) =
        let s : FieldShort f n rest (at_fault x place) = subst (FieldShort f n rest) (sym e) (field_short ed f n rest) in
        rw r s
    its_span e (put bytes r q) =
        let s : FieldShort f n rest (laid_out bytes) = subst (FieldShort f n rest) (sym e) (field_short ed f n rest) in
        rw r s.0

    stop_by : {after : List ℕ} {v : Laying} (x : Refusal) → v ≡ field_laid ed f n rest → moved at its ≡ Err x → Lays out after at its v
        → PatternsLaid ed lengths patterns before after start (Err x)
    stop_by {after} x e k (refused y place r) d front s p =
        subst (Lays d after 0 (Err x)) (behind e front)
        (refused y (length (front ++ g.done) + place)
        (sym k ∙ ap (moved at) r ∙ ap (λ (m : ℕ). Err (record { fault = as_fault y; place = m + place })) (all_length front s)))
    stop_by x e k (put bytes r q) d front s p =
        let there : moved at its ≡ Ok (at + length bytes) = ap (moved at) r in
        let z : ◌≡◌ {A = ℕ} 0 1 = cc (k, there) in absurd (omega arith)

    go_by : {after : List ℕ} {v : Laying} {m : ℕ} → v ≡ field_laid ed f n rest → moved at its ≡ Ok m → Lays out after at its v
        → Going ed lengths patterns before after start m (from + n) (f + 1)
    go_by e k (refused y place r) =
        let there : moved at its ≡ Err (record { fault = as_fault y; place = at + place }) = ap (moved at) r in
        let z : ◌≡◌ {A = ℕ} 0 1 = cc (k, there) in absurd (omega arith)
    go_by {after} {m = m} e k (put bytes r q) =
        let s : FieldShort f n rest (laid_out bytes) = subst (FieldShort f n rest) (sym e) (field_short ed f n rest) in
        let all : moved at its ≡ Ok (at + length bytes) = ap (moved at) r in
        let so-many : m ≡ at + length bytes = cc (k, all) in
        let low = g.low in
        let most = g.most in
        let there = g.its_length in
        record {
          done = g.done ++ bytes;
          its_length = omega (arith, so-many, there, length-append g.done bytes);
          bytes = from_at before out start g.done bytes g.bytes (q ∙ ap (λ (m : ℕ). put_from out m bytes) there) (omega arith);
          left = λ front.
              rw (add-one f)
              (ap₂ (λ (l p : List ℕ). fields_laid ed l (suc f) (drop (suc f) lengths) p) (sym (append_assoc front g.done bytes)) (sym (drop-drop n from patterns))
              ∙ behind e front);
          within = omega (arith, s.2, length-drop from patterns, g.within);
          low = omega (arith, so-many, s.0);
          most = by_bool (leb fields f) (λ a. omega (arith, so-many, s.1 (leb_true fields f a))) (λ a. omega (arith, so-many, s.0, leb_false fields f a));
        }

    module _ {after : List ℕ} (l : Lays out after at its (field_laid ed f n rest)) where
      pub fits : at + span its ≤ 2000
      fits = omega (arith, g.most, its_span refl l)

      pub going_stops : (x : Refusal) → moved at its ≡ Err x → PatternsLaid ed lengths patterns before after start (Err x)
      going_stops x k = stop_by x refl k l

      pub stops_low : (x : Refusal) → moved at its ≡ Err x → x.place ≤ 2000
      stops_low x k =
          let same : at + span its ≡ x.place = sym (span_moved at its) ∙ ap span k in
          omega (arith, fits, same)

      pub going_on : {m : ℕ} → moved at its ≡ Ok m → Going ed lengths patterns before after start m (from + n) (f + 1)
      going_on k = go_by refl k l
