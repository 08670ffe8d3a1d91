-- Any two results that the promise of carrying a catalogue over allows are equal: the answer and the buffer afterwards. An answer can be told from its
-- number. Of a sheet and a rule `OneSpelling` of `carry_anew` says it.
use Prim.Native.Nat.{ℕ}
use mathlib.Core.Path.{◌≡◌, refl, sym, ap, ◌∙◌}
use mathlib.Core.Bool.{cond}
use mathlib.Core.List.{List}
use lib.Dec.{eqb}
use Rattle.paper_carry.specs.Spelling as Spelling
use Rattle.carry_open.specs.CarriedOver.{carried_number, told_carried}
use Rattle.std.specs.Prelude.{Result, Ok, Err}
use Rattle.carry_open.specs.declared.CarryError.{CarryError}
use Rattle.carry_open.specs.declared.CarryError.TheVariants.{Full, NoCatalogue}

carried_from : ℕ → Result (Unit {0}) CarryError
carried_from n = cond (eqb n 0) (Ok tt) (cond (eqb n 32) (Err Full) (Err NoCatalogue))

carried_back : (r : Result (Unit {0}) CarryError) → carried_from (carried_number r) ≡ r
unfolding carried_from
carried_back (Ok u) = refl
carried_back (Err Full) = refl
carried_back (Err NoCatalogue) = refl

-- of a catalogue
pub one_catalogue : (s : Spelling.CarriedOver) (r r' : Result (Unit {0}) CarryError) (c c' : List ℕ) → told_carried r c ≡ s → told_carried r' c' ≡ s → (r ≡ r') × (c ≡ c')
one_catalogue s r r' c c' e e' =
    let same = e ∙ sym e' in (
      sym (carried_back r) ∙ ap carried_from (ap (λ (x : Spelling.CarriedOver). x.number) same) ∙ carried_back r',
      ap (λ (x : Spelling.CarriedOver). x.catalogue) same,
    )
