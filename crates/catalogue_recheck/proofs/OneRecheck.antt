-- Any two results that the promise of `recheck` allows, or that of `recheck_decided`, are equal: the answer and the buffers afterwards. An answer can be told from its numbers.
use Prim.Native.Nat.{ℕ}
use mathlib.Core.Path.{◌≡◌, refl, sym, ap, ◌∙◌}
use mathlib.Core.Bool.{cond}
use mathlib.Core.List.{List}
use lib.Dec.{eqb}
use Rattle.paper_catalogue.specs.Recheck.{rechecking}
use Rattle.paper_catalogue.specs.Recheck as Recheck
use Rattle.paper_catalogue_decide.specs.DecidedPairs.{rechecking_decided}
use Rattle.catalogue_recheck.specs.PairList.{told_rechecked}
use Rattle.std.specs.Prelude.{Result, Ok, Err}
use Rattle.catalogue_recheck.specs.declared.Listed.{Listed}
use Rattle.catalogue_recheck.specs.declared.RecheckError.{RecheckError}
use Rattle.catalogue_recheck.specs.declared.RecheckError.TheVariants.{TooShort, NoCatalogue}

-- the answer with these numbers
rechecked_from : Recheck.Rechecked → Result Listed RecheckError
rechecked_from t = cond (eqb t.number 0) (Ok (record { pairs = t.pairs; written = t.written })) (cond (eqb t.number 35) (Err TooShort) (Err NoCatalogue))

rechecked_back : (r : Result Listed RecheckError) (list work : List ℕ) →
    let t = told_rechecked r list work in (rechecked_from t ≡ r) × (t.list ≡ list) × (t.work ≡ work)
unfolding rechecked_from
rechecked_back (Ok l) list work = (refl, refl, refl)
rechecked_back (Err TooShort) list work = (refl, refl, refl)
rechecked_back (Err NoCatalogue) list work = (refl, refl, refl)

one_rechecked : {o : Recheck.Rechecked} (r r' : Result Listed RecheckError) (l l' w w' : List ℕ) → told_rechecked r l w ≡ o → told_rechecked r' l' w' ≡ o
    → (r ≡ r') × (l ≡ l') × (w ≡ w')
one_rechecked r r' l l' w w' e e' =
    let same = e ∙ sym e' in
    let one = rechecked_back r l w in
    let other = rechecked_back r' l' w' in (
      sym one.0 ∙ ap rechecked_from same ∙ other.0,
      sym one.1 ∙ ap (λ (t : Recheck.Rechecked). t.list) same ∙ other.1,
      sym one.2 ∙ ap (λ (t : Recheck.Rechecked). t.work) same ∙ other.2,
    )

module _ (catalogue work list : List ℕ) (r r' : Result Listed RecheckError) (l l' w w' : List ℕ) where
  pub one_recheck : told_rechecked r l w ≡ rechecking catalogue work list → told_rechecked r' l' w' ≡ rechecking catalogue work list
      → (r ≡ r') × (l ≡ l') × (w ≡ w')
  one_recheck = one_rechecked r r' l l' w w'

  pub one_decided_recheck : told_rechecked r l w ≡ rechecking_decided catalogue work list → told_rechecked r' l' w' ≡ rechecking_decided catalogue work list
      → (r ≡ r') × (l ≡ l') × (w ≡ w')
  one_decided_recheck = one_rechecked r r' l l' w w'
