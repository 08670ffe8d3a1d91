-- What is promised of writing a sheet leaves nothing open: any two results that the contract allows are equal.
--   one_writing : told_written r o ≡ s → told_written r' o' ≡ s → (r ≡ r') × (o ≡ o')
-- An answer and the buffer are found again from what they tell.
use mathlib.Core.Path.{◌≡◌, refl, sym, ap, ◌∙◌}
use mathlib.Core.Bool.{cond}
use mathlib.Core.List.{List}
use Prim.Native.Nat.{ℕ}
use lib.Dec.{eqb}
use Rattle.paper.specs.Lists.{member}
use Rattle.paper.specs.Buffers.{sheet_numbers}
use Rattle.paper_carry.specs.Spelling.{Spelling}
use Rattle.base_answers.proofs.Same.{fault_from, fault_among, fault_numbered}
use Rattle.write_sheet.specs.SheetWritten.{told_written}
use Rattle.std.proofs.Common.{Result, Ok, Err}
use Rattle.write_sheet.specs.declared.WriteError.{WriteError}
use Rattle.write_sheet.specs.declared.WriteError.TheVariants.{Refused, TooShort}

written_from : Spelling → Result ℕ WriteError
written_from s =
    cond (member s.number sheet_numbers) (Err (Refused (record { fault = fault_from s.number; place = s.place })))
    (cond (eqb s.number 0) (Ok s.written) (Err TooShort))

written_back : (r : Result ℕ WriteError) (out : List ℕ) → written_from (told_written r out) ≡ r
unfolding written_from
written_back (Ok n) out = refl
written_back (Err (Refused r)) out = rw (fault_among r.fault, fault_numbered r.fault) refl
written_back (Err TooShort) out = refl

pub one_writing : (s : Spelling) (r r' : Result ℕ WriteError) (o o' : List ℕ) → told_written r o ≡ s → told_written r' o' ≡ s → (r ≡ r') × (o ≡ o')
one_writing s r r' o o' e e' =
    let same = e ∙ sym e' in
    (sym (written_back r o) ∙ ap written_from same ∙ written_back r' o', ap (λ (x : Spelling). x.out) same)
