-- Any two results that the promise of `script` allows are equal: the answer and the buffer afterwards. An answer can be told from its numbers.
use mathlib.Core.Path.{◌≡◌, refl, sym, ap, ◌∙◌}
use mathlib.Core.Bool.{cond}
use mathlib.Core.List.{List}
use Prim.Native.Nat.{ℕ}
use lib.Dec.{eqb}
use Rattle.std.proofs.Common.{Result, Ok, Err}
use Rattle.paper.specs.Lists.{member}
use Rattle.paper.specs.Buffers.{sheet_numbers}
use Rattle.paper_script.specs.Scripting.{Scripting, scripting}
use Rattle.base_answers.proofs.Same.{fault_from, fault_among, fault_numbered}
use Rattle.script_sheet.specs.WrittenOut.{told_scripted}
use Rattle.script_sheet.specs.declared.ScriptError.{ScriptError}
use Rattle.script_sheet.specs.declared.ScriptError.TheVariants.{Refused, TooShort}

-- the answer with these numbers
scripted_from : Scripting → Result ℕ ScriptError
scripted_from s =
    cond (member s.number sheet_numbers) (Err (Refused (record { fault = fault_from s.number; place = s.place })))
    (cond (eqb s.number 0) (Ok s.written) (Err TooShort))

scripted_back : (r : Result ℕ ScriptError) (out : List ℕ) → scripted_from (told_scripted r out) ≡ r
unfolding scripted_from
scripted_back (Ok n) out = refl
scripted_back (Err (Refused r)) out = rw (fault_among r.fault, fault_numbered r.fault) refl
scripted_back (Err TooShort) out = refl

pub one_script : (sheet out : List ℕ) (r r' : Result ℕ ScriptError) (o o' : List ℕ)
    → told_scripted r o ≡ scripting sheet out → told_scripted r' o' ≡ scripting sheet out → (r ≡ r') × (o ≡ o')
one_script sheet out r r' o o' e e' =
    let same = e ∙ sym e' in
    (sym (scripted_back r o) ∙ ap scripted_from same ∙ scripted_back r' o', ap (λ (s : Scripting). s.script) same)
