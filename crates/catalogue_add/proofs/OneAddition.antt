-- Any two results that a promise of this crate allows are equal: the answer and the buffers afterwards. An answer can be told from its numbers,
-- so two answers that tell the same are the same.
use Prim.Native.Nat.{ℕ}
use mathlib.Core.Path.{◌≡◌, refl, sym, ap, ◌∙◌}
use mathlib.Core.Bool.{cond}
use mathlib.Core.List.{List}
use lib.Dec.{eqb}
use Rattle.paper.specs.Lists.{member}
use Rattle.paper.specs.Buffers.{sheet_numbers}
use Rattle.paper_catalogue.specs.PairAsking.{by_search}
use Rattle.paper_catalogue.specs.Catalogue.{AddedBy, adding, adding_by, withdrawing}
use Rattle.paper_catalogue.specs.Catalogue as Catalogue
use Rattle.paper_catalogue_decide.specs.DecidedPairs.{adding_decided}
use Rattle.base_answers.proofs.Same.{fault_from, fault_among, fault_numbered}
use Rattle.catalogue_add.specs.Addition.{told_added, search_of, told_added_by, told_withdrawn}
use Rattle.std.specs.Prelude.{Result, Ok, Err}
use Rattle.catalogue_add.specs.declared.AddError.{AddError}
use Rattle.catalogue_add.specs.declared.AddError.TheVariants as Add-error
use Rattle.catalogue_add.specs.declared.WithdrawError.{WithdrawError}
use Rattle.catalogue_add.specs.declared.WithdrawError.TheVariants as Withdraw-error

-- the answers with these numbers
added_from : AddedBy → Result (Unit {0}) AddError
added_from o =
    let t = o.added in
    cond (member t.number sheet_numbers) (Err (Add-error.Refused (record { fault = fault_from t.number; place = t.place })))
    (cond (eqb t.number 0) (Ok tt)
    (cond (eqb t.number 30) (Err (Add-error.NotApart (record { rule = t.rule; pair = record { answer = t.answer; count = t.count; search = o.search } })))
    (cond (eqb t.number 31) (Err Add-error.ForeignField) (cond (eqb t.number 32) (Err Add-error.Full) (Err Add-error.NoCatalogue)))))

withdrawn_from : Catalogue.Withdrawn → Result (Unit {0}) WithdrawError
withdrawn_from t =
    cond (eqb t.number 0) (Ok tt) (cond (eqb t.number 33) (Err Withdraw-error.NoRule) (Err Withdraw-error.NoCatalogue))

added_back : (r : Result (Unit {0}) AddError) (catalogue work : List ℕ) →
    let o = told_added_by r catalogue work in (added_from o ≡ r) × (o.added.catalogue ≡ catalogue) × (o.added.work ≡ work)
unfolding added_from
added_back (Ok u) catalogue work = (refl, refl, refl)
added_back (Err (Add-error.Refused r)) catalogue work = (rw (fault_among r.fault, fault_numbered r.fault) refl, refl, refl)
added_back (Err (Add-error.NotApart n)) catalogue work = (refl, refl, refl)
added_back (Err Add-error.ForeignField) catalogue work = (refl, refl, refl)
added_back (Err Add-error.Full) catalogue work = (refl, refl, refl)
added_back (Err Add-error.NoCatalogue) catalogue work = (refl, refl, refl)

withdrawn_back : (r : Result (Unit {0}) WithdrawError) (catalogue : List ℕ) →
    let t = told_withdrawn r catalogue in (withdrawn_from t ≡ r) × (t.catalogue ≡ catalogue)
unfolding withdrawn_from
withdrawn_back (Ok u) catalogue = (refl, refl)
withdrawn_back (Err Withdraw-error.NoRule) catalogue = (refl, refl)
withdrawn_back (Err Withdraw-error.NoCatalogue) catalogue = (refl, refl)

one_added : {o : AddedBy} (r r' : Result (Unit {0}) AddError) (c c' w w' : List ℕ) → told_added_by r c w ≡ o → told_added_by r' c' w' ≡ o
    → (r ≡ r') × (c ≡ c') × (w ≡ w')
one_added r r' c c' w w' e e' =
    let same = e ∙ sym e' in
    let one = added_back r c w in
    let other = added_back r' c' w' in (
      sym one.0 ∙ ap added_from same ∙ other.0,
      sym one.1 ∙ ap (λ (o : AddedBy). o.added.catalogue) same ∙ other.1,
      sym one.2 ∙ ap (λ (o : AddedBy). o.added.work) same ∙ other.2,
    )

module _ (catalogue bytes work : List ℕ) (r r' : Result (Unit {0}) AddError) (c c' w w' : List ℕ) where
  pub one_addition : (told_added r c w ≡ adding catalogue bytes work) × (search_of r ≡ (adding_by by_search catalogue bytes work).search)
      → (told_added r' c' w' ≡ adding catalogue bytes work) × (search_of r' ≡ (adding_by by_search catalogue bytes work).search)
      → (r ≡ r') × (c ≡ c') × (w ≡ w')
  one_addition e e' =
      one_added r r' c c' w w' (λ i. record { added = e.0 i; search = e.1 i }) (λ i. record { added = e'.0 i; search = e'.1 i })

  pub one_decided_addition : told_added_by r c w ≡ adding_decided catalogue bytes work → told_added_by r' c' w' ≡ adding_decided catalogue bytes work
      → (r ≡ r') × (c ≡ c') × (w ≡ w')
  one_decided_addition = one_added r r' c c' w w'

pub one_withdrawal : (catalogue : List ℕ) (number : ℕ) (r r' : Result (Unit {0}) WithdrawError) (c c' : List ℕ)
    → told_withdrawn r c ≡ withdrawing catalogue number → told_withdrawn r' c' ≡ withdrawing catalogue number
    → (r ≡ r') × (c ≡ c')
one_withdrawal catalogue number r r' c c' e e' =
    let same = e ∙ sym e' in
    let one = withdrawn_back r c in
    let other = withdrawn_back r' c' in (
      sym one.0 ∙ ap withdrawn_from same ∙ other.0,
      sym one.1 ∙ ap (λ (t : Catalogue.Withdrawn). t.catalogue) same ∙ other.1,
    )
