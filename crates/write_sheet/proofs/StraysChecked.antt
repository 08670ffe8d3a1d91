-- How far the fields are looked up for patterns that stand in neither side: what is left of them is what the check on all of them finds. The start, one
-- more, a stray, the end; and the check behind what was put.
--   known_by      : lengths that were laid out are known
--   stray_refused, none_refused, stray_stopped : what the check makes of what was laid out
-- Follows from the definition of the check, field by field.
use Prim.Native.Nat.{ℕ, suc, ◌+◌, ◌*◌, ◌≤◌, ◌<◌}
use native.Mathlib.Numerals.{add-one}
use native.Mathlib.Omega.{arith}
use mathlib.Core.Path.{◌≡◌, refl, sym, ap, ◌∙◌, subst}
use mathlib.Core.Bool.{Bool, true, false, ◌&&◌}
use mathlib.Core.List.{List, ◌∷◌}
use lib.Dec.{ltb}
use lib.ListN.{length, get_or, drop, drop_of_length-le}
use lib.Seq.{drop-cons}
use Rattle.paper.specs.Numbers.{fields, pattern_bytes}
use Rattle.paper.specs.Equation.{Side, stands_in}
use Rattle.paper.specs.Sheet.{stray_pattern}
use Rattle.paper.proofs.base.Tests.{lt_ltb, neq_eqb}
use Rattle.paper_write.specs.Laying.{Laying, at_fault, laid_out, strays_laid, then_strays}
use Rattle.paper_write.proofs.LaidShort.{LengthsKnown}
use Rattle.std.proofs.Common.{Ok, Err}
use Rattle.base_answers.specs.Faults.{fault_of}
use Rattle.base_answers.specs.declared.Fault.{Fault}
use Rattle.base_answers.specs.declared.Refusal.{Refusal}
use Rattle.base_answers.proofs.Same.{same_fault}
use Rattle.write_records.specs.RecordPut.{Lays, refused, put}
use Rattle.write_sheet.specs.SheetWritten.{KnownLengths, StraysFound}

pub known_by : {d e : List ℕ} {v : Laying} (lengths : List ℕ) (n : ℕ) → LengthsKnown 0 lengths v → Lays d e 0 (Ok n) v → KnownLengths lengths
known_by lengths n h (refused x place k) = let z : ◌≡◌ {A = ℕ} 0 1 = cc k in absurd (omega arith)
known_by lengths n h (put bytes k q) = λ i some. let (known, short) = h i some in (omega arith, short)

-- what was told of a field that is known
pub stands_so : (side : Side) (f : ℕ) {r b : Bool} → f < fields → r ≡ (ltb f fields && stands_in f side) → r ≡ b → stands_in f side ≡ b
stands_so side f known e g = sym (rw (lt_ltb f fields known) at e) ∙ g

-- before the field f, whose record begins at `at` if it has one
pub record Checking (side : Side) (lengths : List ℕ) (start at f : ℕ) : Type 0 where
  -- whatever is done
  pub left : (done : List ℕ) → strays_laid side done at f (drop f lengths) ≡ strays_laid side done start 0 lengths
  pub low : at ≤ start + f * (4 + pattern_bytes)

module _ (side : Side) (lengths : List ℕ) (start : ℕ) where
  -- the first stray, or none
  abbrev Found_at : (List ℕ → Laying) → Type 0
  Found_at v = (done : List ℕ) → v done ≡ strays_laid side done start 0 lengths

  pub checking_start : Checking side lengths start start 0
  checking_start = record { left = λ done. refl; low = omega arith }

  module _ {at f : ℕ} (g : Checking side lengths start at f) where
    pub checking_ends : length lengths ≤ f → Found_at laid_out
    checking_ends h done = ap (strays_laid side done at f) (sym (drop_of_length-le lengths {i = f} h)) ∙ g.left done

    module _ (h : f < length lengths) where
      here : (done : List ℕ) → strays_laid side done at f (get_or lengths f 0 ∷ drop (suc f) lengths) ≡ strays_laid side done start 0 lengths
      here done = ap (strays_laid side done at f) (sym (drop-cons lengths f 0 h)) ∙ g.left done

      pub checking_skips : get_or lengths f 0 ≡ 0 → Checking side lengths start at (f + 1)
      checking_skips z =
          let low = g.low in record { left = λ done. rw add-one (rw z at (here done)); low = omega arith }

      module _ (some : 0 < get_or lengths f 0) where
        pub checking_stops : stands_in f side ≡ false → Found_at (λ done. at_fault stray_pattern at)
        checking_stops e done = rw (neq_eqb (get_or lengths f 0) 0 (λ (z : get_or lengths f 0 ≡ 0). omega arith), e) at (here done)

        pub checking_on : get_or lengths f 0 ≤ pattern_bytes → stands_in f side ≡ true → Checking side lengths start (at + (4 + get_or lengths f 0)) (f + 1)
        checking_on short e =
            let low = g.low in
            record {
              left = λ done. rw add-one (rw (neq_eqb (get_or lengths f 0) 0 (λ (z : get_or lengths f 0 ≡ 0). omega arith), e) at (here done));
              low = omega arith;
            }

  -- behind what was laid out
  pub stray_refused : {d e f : List ℕ} {w : Laying} (n : ℕ) (x : Refusal) → StraysFound side lengths start (Err x) → Lays d e 0 (Ok n) w
      → Lays d f 0 (Err x) (then_strays side start lengths w)
  stray_refused n x h (refused y place r) = let z : ◌≡◌ {A = ℕ} 0 1 = cc r in absurd (omega arith)
  stray_refused {d} {e} {f} n x h (put bytes r q) =
      subst (Lays d f 0 (Err x)) (sym (h bytes)) (refused (fault_of x.fault) x.place (ap (λ (y : Fault). Err (record { fault = y; place = x.place })) (sym (same_fault x.fault))))

  pub none_refused : {d e : List ℕ} {w : Laying} (n : ℕ) → StraysFound side lengths start (Ok tt) → Lays d e 0 (Ok n) w
      → Lays d e 0 (Ok n) (then_strays side start lengths w)
  none_refused n h (refused y place r) = let z : ◌≡◌ {A = ℕ} 0 1 = cc r in absurd (omega arith)
  none_refused {d} {e} n h (put bytes r q) = subst (Lays d e 0 (Ok n)) (sym (h bytes)) (put bytes r q)

  pub stray_stopped : {d e f : List ℕ} {w : Laying} (x : Refusal) → Lays d e 0 (Err x) w → Lays d f 0 (Err x) (then_strays side start lengths w)
  stray_stopped x (refused y place r) = refused y place r
  stray_stopped x (put bytes r q) = let z : ◌≡◌ {A = ℕ} 0 1 = cc r in absurd (omega arith)
