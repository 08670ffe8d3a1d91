-- What is told of what a sheet is to say: what writing it is by the rules.
--   told_at_fault, told_no_room, told_put : by what laying it out met, and by the room
--   and_promised                          : with it all that is promised
-- Follows from what reading the sheet laid out finds (`LaidRead` of `paper_write`).
use Prim.Native.Nat.{ℕ, ◌≤◌, ◌<◌}
use native.Mathlib.Omega.{arith}
use mathlib.Core.Path.{◌≡◌, refl, sym, ap, ◌∙◌, subst}
use mathlib.Core.List.{List, [], ◌∷◌, ◌++◌}
use lib.ListN.{length}
use Rattle.paper.proofs.base.Tests.{le_ltb, lt_ltb}
use Rattle.paper_carry.specs.Spelling.{Spelling, put_into}
use Rattle.paper.specs.Saying.{ToSay, sheet_laid}
use Rattle.paper_write.specs.Laying.{Laying, laying}
use Rattle.paper_write.specs.Writing.{writing, Says, WritePromised}
use Rattle.paper_write.proofs.LaidRead.{Whole, laying_reads}
use Rattle.paper_write.proofs.WritePromised.{laid_fits, write_promised}
use Rattle.base_answers.specs.Faults.{as_fault}
use Rattle.std.proofs.Common.{Result, Ok, Err}
use Rattle.base_answers.specs.declared.Refusal.{Refusal}
use Rattle.base_answers.proofs.Same.{same_paper}
use Rattle.base_put.specs.Counted.{place_behind, put_from, Counted}
use Rattle.base_put.proofs.Counting.{counted_in_front}
use Rattle.write_records.specs.RecordPut.{Lays}
use Rattle.write_records.specs.RecordPut as Put
use Rattle.write_sheet.specs.SheetWritten.{told_written}
use Rattle.write_sheet.specs.declared.WriteError.TheVariants.{Refused, TooShort}

-- nothing is put into no bytes
pub none_put : (e : List ℕ) → length e ≡ 0 → (out : List ℕ) → e ++ out ≡ out
none_put [] h out = refl
none_put (b ∷ e) h out = absurd (omega arith)

module _ (t : ToSay) (out : List ℕ) where
  -- a good sheet is put where there is room
  good_put : Says t (sheet_laid t) → writing t out ≡ put_into (sheet_laid t) out
  unfolding writing
  good_put s = rw s.asks

  module _ {d e : List ℕ} {r : Result ℕ Refusal} where
    fault_by : (x : Refusal) → r ≡ Err x → {v : Laying} → Whole t v → Lays d e 0 r v → told_written (Err (Refused x)) out ≡ writing t out
    unfolding writing
    fault_by x f w (Put.refused y place k) =
        let same : x ≡ record { fault = as_fault y; place = place } = cc (f, k) in
        rw (w, same, same_paper y)
    fault_by x f w (Put.put bytes k q) = let z : ◌≡◌ {A = ℕ} 0 1 = cc (f, k) in absurd (omega arith)

    short_by : {n : ℕ} → r ≡ Ok n → length out < n → {v : Laying} → Whole t v → Lays d e 0 r v → told_written (Err TooShort) out ≡ writing t out
    short_by f h w (Put.refused y place k) = let z : ◌≡◌ {A = ℕ} 0 1 = cc (f, k) in absurd (omega arith)
    short_by {n} f h w (Put.put bytes k q) =
        let long : n ≡ length bytes = cc (f, k) in
        let same = ap length w.0 in
        rw (good_put w.1, lt_ltb (length out) (length (sheet_laid t)) (omega (arith, long, same)))

    -- how long it is, where there is no fault
    length_by : {n : ℕ} → r ≡ Ok n → {v : Laying} → Whole t v → Lays d e 0 r v → (n ≡ length (sheet_laid t)) × Says t (sheet_laid t)
    length_by f w (Put.refused y place k) = let z : ◌≡◌ {A = ℕ} 0 1 = cc (f, k) in absurd (omega arith)
    length_by {n} f w (Put.put bytes k q) = let long : n ≡ length bytes = cc (f, k) in (long ∙ ap length w.0, w.1)

    -- and then there is none
    good_by : {x : Refusal} → r ≡ Err x → Says t (sheet_laid t) → {v : Laying} → Whole t v → Lays d e 0 r v → ⊥
    good_by f s w (Put.refused y place k) = let z : ◌≡◌ {A = ℕ} 0 1 = cc (w, s.asks) in omega arith
    good_by f s w (Put.put bytes k q) = let z : ◌≡◌ {A = ℕ} 0 1 = cc (f, k) in omega arith

  put_by : {e : List ℕ} {r : Result ℕ Refusal} {n : ℕ} → r ≡ Ok n → length (sheet_laid t) ≤ length out → Says t (sheet_laid t) → {v : Laying} → Whole t v → Lays out e 0 r v
      → told_written (Ok n) e ≡ writing t out
  put_by f room s w (Put.refused y place k) = let z : ◌≡◌ {A = ℕ} 0 1 = cc (f, k) in absurd (omega arith)
  put_by {e} {n = n} f room s w (Put.put bytes k q) =
      let same : bytes ≡ sheet_laid t = w.0 in
      let long : n ≡ length bytes = cc (f, k) in
      let counted : Counted out e 0 (place_behind 0 (sheet_laid t)) (sheet_laid t) = record { bytes = q ∙ ap (put_from out 0) same; behind = refl } in
      let front = counted_in_front counted (omega (arith, laid_fits t s.question s.asks)) room in
      rw (good_put s, le_ltb (length out) (length (sheet_laid t)) room, long ∙ ap length same, front)

  pub told_at_fault : {d e : List ℕ} (x : Refusal) → Lays d e 0 (Err x) (laying t) → told_written (Err (Refused x)) out ≡ writing t out
  told_at_fault x l = fault_by x refl (laying_reads t) l

  module _ {d e : List ℕ} {n : ℕ} (l : Lays d e 0 (Ok n) (laying t)) where
    pub told_no_room : length out < n → told_written (Err TooShort) out ≡ writing t out
    told_no_room h = short_by refl h (laying_reads t) l

    pub told_put : {after : List ℕ} {m : ℕ} → n ≤ length out → Lays out after 0 (Ok m) (laying t) → told_written (Ok m) after ≡ writing t out
    told_put h k =
        let (long, says) = length_by refl (laying_reads t) l in put_by refl (omega (arith, long)) says (laying_reads t) k

    pub no_fault : {b c : List ℕ} {x : Refusal} → Lays b c 0 (Err x) (laying t) → ⊥
    no_fault k = let (long, says) = length_by refl (laying_reads t) l in good_by refl says (laying_reads t) k

  pub and_promised : (s : Spelling) → s ≡ writing t out → (s ≡ writing t out) × WritePromised t out s
  and_promised s e = (e, subst (WritePromised t out) (sym e) (write_promised t out))
