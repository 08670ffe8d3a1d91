-- What is promised of spelling and of reading back leaves nothing open: any two results that a contract allows are equal.
--   one_spelling : told_spelt r o ≡ s → told_spelt r' o' ≡ s → (r ≡ r') × (o ≡ o')
-- An answer and the buffer are found again from what they tell.
use mathlib.Core.Path.{◌≡◌, refl, sym, ap, ◌∙◌}
use mathlib.Core.Bool.{cond}
use mathlib.Core.List.{List}
use Rattle.std.proofs.Common.{Result, Ok, Err}
use Prim.Native.Nat.{ℕ}
use lib.Dec.{eqb}
use Rattle.paper_spell.specs.Spell.{SpellAnswer}
use Rattle.spell_text.specs.SpeltNumbers.{told_spelt}
use Rattle.spell_text.specs.declared.SpellError.{SpellError}
use Rattle.spell_text.specs.declared.SpellError.TheVariants.{NotInTable, TooShort}

spelt_from : SpellAnswer → Result ℕ SpellError
spelt_from s = cond (eqb s.number 0) (Ok s.written) (cond (eqb s.number 45) (Err NotInTable) (Err TooShort))

spelt_back : (r : Result ℕ SpellError) (out : List ℕ) → spelt_from (told_spelt r out) ≡ r
unfolding spelt_from
spelt_back (Ok n) out = refl
spelt_back (Err NotInTable) out = refl
spelt_back (Err TooShort) out = refl

pub one_spelling : (s : SpellAnswer) (r r' : Result ℕ SpellError) (o o' : List ℕ) → told_spelt r o ≡ s → told_spelt r' o' ≡ s → (r ≡ r') × (o ≡ o')
one_spelling s r r' o o' e e' =
    let same = e ∙ sym e' in
    (sym (spelt_back r o) ∙ ap spelt_from same ∙ spelt_back r' o', ap (λ (x : SpellAnswer). x.out) same)
