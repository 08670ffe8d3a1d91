-- Records put one behind the other from the front on, as they are laid out.
--   joined       : a record behind what is put
--   side_behind  : a side behind what was laid out; side-stopped: behind a fault nothing is put
--   its_low      : how long a side's record is
-- Follows from the laws of bytes put and counted.
use Prim.Native.Nat.{ℕ, suc, ◌+◌, ◌≤◌}
use native.Mathlib.Nat.{add-zero, zero-add}
use native.Mathlib.Omega.{arith}
use mathlib.Core.Path.{◌≡◌, refl, sym, ap, ◌∙◌, subst}
use mathlib.Core.List.{List, [], ◌∷◌, ◌++◌}
use lib.ListN.{length, length-append}
use Rattle.paper.specs.Numbers.{sheet_side}
use Rattle.paper.specs.Alphabet.{Edition, edition_1, edition_2}
use Rattle.paper.specs.Sheet.{Mark}
use Rattle.paper.specs.Saying.{edition_laid, edition_byte}
use Rattle.paper.proofs.base.Tests.{lt_ltb}
use Rattle.paper_write.specs.Laying.{Laying, laid_out, side_record_laid, then_laid, then_side}
use Rattle.paper_write.proofs.LaidShort.{SideShort}
use Rattle.std.proofs.Common.{Result, Ok, Err}
use Rattle.base_answers.specs.declared.Refusal.{Refusal}
use Rattle.base_put.specs.Counted.{last_place, next_place, place_behind, put_from, Counted}
use Rattle.base_put.proofs.Counting.{counted_then}
use Rattle.write_records.specs.RecordPut.{Lays, refused, put}
use Rattle.write_sheet.specs.SheetWritten.{span, moved}

-- the place behind bytes put from a place on
behind_length : (at : ℕ) (l : List ℕ) → at + length l ≤ last_place → place_behind at l ≡ at + length l
unfolding next_place
behind_length at [] h = sym (add-zero at)
behind_length at (b ∷ l) h = rw (lt_ltb at last_place (omega arith)) (behind_length (suc at) l (omega arith) ∙ (omega arith))

-- bytes behind those put from a place on, and behind those in front
pub from_at : (d e : List ℕ) {after : List ℕ} (start : ℕ) (done bytes : List ℕ) → e ≡ put_from d start done → after ≡ put_from e (start + length done) bytes
    → start + length done ≤ last_place → after ≡ put_from d start (done ++ bytes)
from_at d e {after} start done bytes p q h =
    let front : Counted d e start (place_behind start done) done = record { bytes = p; behind = refl } in
    let there : place_behind start done ≡ start + length done = behind_length start done h in
    let behind : Counted e after (place_behind start done) (place_behind (place_behind start done) bytes) bytes =
    record { bytes = q ∙ ap (λ (n : ℕ). put_from e n bytes) (sym there); behind = refl } in
    (counted_then front behind).bytes

pub from_both : (d e : List ℕ) {after : List ℕ} (done bytes : List ℕ) → e ≡ put_from d 0 done → after ≡ put_from e (length done) bytes → length done ≤ last_place
    → after ≡ put_from d 0 (done ++ bytes)
from_both d e done bytes p q h =
    from_at d e 0 done bytes p (q ∙ ap (λ (n : ℕ). put_from e n bytes) (sym (zero-add (length done)))) (omega arith)

-- the edition's record, or none
pub front_short : (ed : Edition) → length (edition_laid (edition_byte ed)) ≤ 3
front_short edition_1 = omega arith
front_short edition_2 = omega arith

pub span_moved : (n : ℕ) (r : Result ℕ Refusal) → span (moved n r) ≡ n + span r
span_moved n (Ok bytes) = refl
span_moved n (Err r) = refl

pub joined : {d e after : List ℕ} {v : Laying} (done : List ℕ) (its : Result ℕ Refusal) → e ≡ put_from d 0 done → length done ≤ last_place
    → Lays e after (length done) its v → Lays d after 0 (moved (length done) its) (then_laid done v laid_out)
joined done its p h (refused x place r) = refused x (length done + place) (ap (moved (length done)) r)
joined {d} {e} done its p h (put bytes r q) =
    put (done ++ bytes) (ap (moved (length done)) r ∙ ap (λ (n : ℕ). Ok n) (sym (length-append done bytes)))
    (from_both d e done bytes p q h)

-- Sides.
pub its_low : {e after : List ℕ} {at : ℕ} {v : Laying} (its : Result ℕ Refusal) → Lays e after at its v → SideShort v → span its ≤ 3 + sheet_side
its_low its (refused x place r) h = rw r h
its_low its (put bytes r q) h = rw r h

module _ (ed : Edition) (m : Mark) (tokens : List ℕ) where
  pub side_behind : {d e after : List ℕ} {w : Laying} (at : ℕ) (its : Result ℕ Refusal) → at ≤ last_place → Lays d e 0 (Ok at) w
      → Lays e after at its (side_record_laid ed m tokens) → Lays d after 0 (moved at its) (then_side ed m tokens w)
  side_behind at its h (refused x place r) l = let z : ◌≡◌ {A = ℕ} 0 1 = cc r in absurd (omega arith)
  side_behind {d} {e} {after} at its h (put bytes r q) l =
      let there : at ≡ length bytes = cc r in
      subst (λ (n : ℕ). Lays d after 0 (moved n its) (then_laid bytes (side_record_laid ed m tokens) laid_out)) (sym there)
      (joined bytes its q (omega (arith, there)) (subst (λ (n : ℕ). Lays e after n its (side_record_laid ed m tokens)) there l))

  -- behind a fault nothing is put
  pub side_stopped : {d e f : List ℕ} {w : Laying} (x : Refusal) → Lays d e 0 (Err x) w → Lays d f 0 (Err x) (then_side ed m tokens w)
  side_stopped x (refused y place r) = refused y place r
  side_stopped x (put bytes r q) = let z : ◌≡◌ {A = ℕ} 0 1 = cc r in absurd (omega arith)
