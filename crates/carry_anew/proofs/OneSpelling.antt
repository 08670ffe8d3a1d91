-- Any two results that the promise of writing a sheet or a rule anew allows are equal: the answer and the buffer afterwards. An answer can be told
-- from its numbers.
use Prim.Native.Nat.{ℕ}
use mathlib.Core.Path.{◌≡◌, refl, sym, ap, ◌∙◌}
use mathlib.Core.Bool.{cond}
use mathlib.Core.List.{List}
use lib.Dec.{eqb}
use Rattle.paper.specs.Lists.{member}
use Rattle.paper.specs.Buffers.{sheet_numbers}
use Rattle.paper_carry.specs.Spelling.{Spelling}
use Rattle.std.specs.Prelude.{Result, Ok, Err}
use Rattle.base_answers.proofs.Same.{fault_from, fault_among, fault_numbered}
use Rattle.carry_anew.specs.Anew.{told_spelt}
use Rattle.carry_anew.specs.declared.RewriteError.{RewriteError}
use Rattle.carry_anew.specs.declared.RewriteError.TheVariants.{Refused, ForeignField, TooShort}

-- the answer with these numbers
spelt_from : Spelling → Result ℕ RewriteError
spelt_from s =
    cond (member s.number sheet_numbers) (Err (Refused (record { fault = fault_from s.number; place = s.place })))
    (cond (eqb s.number 0) (Ok s.written) (cond (eqb s.number 31) (Err ForeignField) (Err TooShort)))

spelt_back : (r : Result ℕ RewriteError) (out : List ℕ) → spelt_from (told_spelt r out) ≡ r
unfolding spelt_from
spelt_back (Ok n) out = refl
spelt_back (Err (Refused r)) out = rw (fault_among r.fault, fault_numbered r.fault) refl
spelt_back (Err ForeignField) out = refl
spelt_back (Err TooShort) out = refl

-- of a sheet, and of a rule: whatever the definition says
pub one_spelling : (s : Spelling) (r r' : Result ℕ RewriteError) (o o' : List ℕ) → told_spelt r o ≡ s → told_spelt r' o' ≡ s → (r ≡ r') × (o ≡ o')
one_spelling s r r' o o' e e' =
    let same = e ∙ sym e' in
    (sym (spelt_back r o) ∙ ap spelt_from same ∙ spelt_back r' o', ap (λ (x : Spelling). x.out) same)
