-- Any two results that the promise of taking strays out of a catalogue allows are equal: the answer and the buffer afterwards. An answer can be told
-- from its number. Of a sheet and a rule `OneSpelling` of `carry_anew` says it.
use Prim.Native.Nat.{ℕ}
use mathlib.Core.Path.{◌≡◌, refl, sym, ap, ◌∙◌}
use mathlib.Core.Bool.{cond}
use mathlib.Core.List.{List}
use lib.Dec.{eqb}
use Rattle.paper_carry.specs.Spelling.{CarriedOver}
use Rattle.carry_strays.specs.StraysDropped.{dropped_number, told_dropped}
use Rattle.std.specs.Prelude.{Result, Ok, Err}
use Rattle.carry_strays.specs.declared.NoCatalogue.{NoCatalogue}

dropped_from : ℕ → Result (Unit {0}) NoCatalogue
dropped_from n = cond (eqb n 0) (Ok tt) (Err (record {}))

dropped_back : (r : Result (Unit {0}) NoCatalogue) → dropped_from (dropped_number r) ≡ r
unfolding dropped_from
dropped_back (Ok u) = refl
dropped_back (Err e) = refl

pub one_dropping : (s : CarriedOver) (r r' : Result (Unit {0}) NoCatalogue) (c c' : List ℕ) → told_dropped r c ≡ s → told_dropped r' c' ≡ s → (r ≡ r') × (c ≡ c')
one_dropping s r r' c c' e e' =
    let same = e ∙ sym e' in (
      sym (dropped_back r) ∙ ap dropped_from (ap (λ (x : CarriedOver). x.number) same) ∙ dropped_back r',
      ap (λ (x : CarriedOver). x.catalogue) same,
    )
