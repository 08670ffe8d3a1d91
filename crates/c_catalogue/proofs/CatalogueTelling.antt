-- What the catalogue's answers and their numbers say of `adding`, `withdrawing` and `rechecking`. Follows from the definitions of the answers.
-- And the elements, known by hand.
use Prim.Native.Nat.{ℕ, ◌<◌}
use mathlib.Core.Path.{◌≡◌, ap, ◌∙◌, refl}
use mathlib.Core.List.{List, [], ◌∷◌}
use native.Mathlib.Omega.{arith}
use lib.Dec.{lit<}
use Rattle.paper_catalogue.specs.Catalogue as Catalogue
use Rattle.paper_catalogue.specs.Recheck as Recheck
use Rattle.base_answers.specs.Faults.{fault_of}
use Rattle.catalogue_add.specs.Addition.{told_added, told_withdrawn}
use Rattle.std.specs.Prelude.{Result, Ok, Err}
use Rattle.catalogue_add.specs.declared.AddError.{AddError}
use Rattle.catalogue_add.specs.declared.AddError.TheVariants.{Refused, NotApart, ForeignField, Full, NoCatalogue}
use Rattle.catalogue_add.specs.declared.WithdrawError.{WithdrawError}
use Rattle.catalogue_add.specs.declared.WithdrawError.TheVariants as Withdraw-error
use Rattle.catalogue_recheck.specs.PairList.{told_rechecked}
use Rattle.catalogue_recheck.specs.declared.Listed.{Listed}
use Rattle.catalogue_recheck.specs.declared.RecheckError.{RecheckError}
use Rattle.catalogue_recheck.specs.declared.RecheckError.TheVariants as Recheck-error
use Rattle.catalogue_numbers.specs.CatalogueNumbers.{numbers_of_added, number_of_withdrawn, as_totals}
use Rattle.catalogue_numbers.specs.declared.Numbers.{Numbers}
use Rattle.catalogue_numbers.specs.declared.Totals.{Totals}
use Rattle.c_catalogue.specs.Catalogued.{telling_numbers, telling_added, telling_totals, telling_rechecked}
use Rattle.base_answers.proofs.FaultNumbers.{fault_below}

-- 34 is the last of request K1's numbers; a fault's is below 45
pub added_below : (a : Result (Unit {0}) AddError) → (numbers_of_added a).number < 45
added_below (Ok u) = lit< tt
added_below (Err (Refused r)) = omega (arith, fault_below (fault_of r.fault))
added_below (Err (NotApart n)) = lit< tt
added_below (Err ForeignField) = lit< tt
added_below (Err Full) = lit< tt
added_below (Err NoCatalogue) = lit< tt

pub withdrawn_below : (w : Result (Unit {0}) WithdrawError) → number_of_withdrawn w < 35
withdrawn_below (Ok u) = lit< tt
withdrawn_below (Err Withdraw-error.NoRule) = lit< tt
withdrawn_below (Err Withdraw-error.NoCatalogue) = lit< tt

-- and 35 of request K3's
pub rechecked_below : (r : Result Listed RecheckError) → (as_totals r).number < 36
rechecked_below (Ok l) = lit< tt
rechecked_below (Err Recheck-error.TooShort) = lit< tt
rechecked_below (Err Recheck-error.NoCatalogue) = lit< tt

-- what an answer tells is its numbers, whatever the buffers hold
abbrev in_numbers : Numbers → List ℕ → List ℕ → Catalogue.Added
in_numbers n catalogue work =
    record {
      number = n.number;
      count = n.count;
      place = n.place;
      rule = n.rule;
      answer = n.answer;
      catalogue = catalogue;
      work = work;
    }

added_numbers : (a : Result (Unit {0}) AddError) (catalogue work : List ℕ) → in_numbers (numbers_of_added a) catalogue work ≡ told_added a catalogue work
added_numbers (Ok u) catalogue work = refl
added_numbers (Err (Refused r)) catalogue work = refl
added_numbers (Err (NotApart n)) catalogue work = refl
added_numbers (Err ForeignField) catalogue work = refl
added_numbers (Err Full) catalogue work = refl
added_numbers (Err NoCatalogue) catalogue work = refl

abbrev in_number : ℕ → List ℕ → Catalogue.Withdrawn
in_number n catalogue = record { number = n; catalogue = catalogue }

withdrawn_number : (w : Result (Unit {0}) WithdrawError) (catalogue : List ℕ) → in_number (number_of_withdrawn w) catalogue ≡ told_withdrawn w catalogue
withdrawn_number (Ok u) catalogue = refl
withdrawn_number (Err Withdraw-error.NoRule) catalogue = refl
withdrawn_number (Err Withdraw-error.NoCatalogue) catalogue = refl

abbrev in_totals : Totals → List ℕ → List ℕ → Recheck.Rechecked
in_totals t list work = record { number = t.number; pairs = t.pairs; written = t.written; list = list; work = work }

rechecked_totals : (r : Result Listed RecheckError) (list work : List ℕ) → in_totals (as_totals r) list work ≡ told_rechecked r list work
rechecked_totals (Ok l) list work = refl
rechecked_totals (Err Recheck-error.TooShort) list work = refl
rechecked_totals (Err Recheck-error.NoCatalogue) list work = refl

-- an answer that tells the addition, with its numbers named and written
pub added_promised :
    (a : Result (Unit {0}) AddError) (numbers : Numbers) {catalogue work : List ℕ} {o : Catalogue.Added} (before : List ℕ) {four : List ℕ}
    → told_added a catalogue work ≡ o
    → numbers ≡ numbers_of_added a
    → four ≡ telling_numbers before numbers
    → (numbers.number ≡ o.number) × ((four ≡ telling_added before o) × ((catalogue ≡ o.catalogue) × (work ≡ o.work)))
added_promised a numbers {catalogue = catalogue} {work = work} before whole named fourth =
    let same = ap (λ (n : Numbers). in_numbers n catalogue work) named ∙ added_numbers a catalogue work ∙ whole in (
      ap (λ (o : Catalogue.Added). o.number) same,
      (
        fourth ∙ ap (telling_added before) same,
        (ap (λ (o : Catalogue.Added). o.catalogue) same, ap (λ (o : Catalogue.Added). o.work) same),
      ),
    )

-- an answer that tells the withdrawal, with its number named
pub withdrawn_promised :
    (w : Result (Unit {0}) WithdrawError) (n : ℕ) {catalogue : List ℕ} {o : Catalogue.Withdrawn} → told_withdrawn w catalogue ≡ o
    → n ≡ number_of_withdrawn w
    → (n ≡ o.number) × (catalogue ≡ o.catalogue)
withdrawn_promised w n {catalogue = catalogue} whole named =
    let same = ap (λ (n : ℕ). in_number n catalogue) named ∙ withdrawn_number w catalogue ∙ whole in
    (ap (λ (o : Catalogue.Withdrawn). o.number) same, ap (λ (o : Catalogue.Withdrawn). o.catalogue) same)

-- an answer that tells the list, with its totals named and written
pub rechecked_promised :
    (r : Result Listed RecheckError) (totals : Totals) {list work : List ℕ} {o : Recheck.Rechecked} (before : List ℕ) {two : List ℕ}
    → told_rechecked r list work ≡ o
    → totals ≡ as_totals r
    → two ≡ telling_totals before totals
    → (totals.number ≡ o.number) × ((two ≡ telling_rechecked before o) × ((list ≡ o.list) × (work ≡ o.work)))
rechecked_promised r totals {list = list} {work = work} before whole named second =
    let same = ap (λ (t : Totals). in_totals t list work) named ∙ rechecked_totals r list work ∙ whole in (
      ap (λ (o : Recheck.Rechecked). o.number) same,
      (
        second ∙ ap (telling_rechecked before) same,
        (ap (λ (o : Recheck.Rechecked). o.list) same, ap (λ (o : Recheck.Rechecked). o.work) same),
      ),
    )

-- Which element has which number. Of an addition: the count at 0, the place at 1, the rule at 2, its pair's answer at 3. Of checking again: the pairs
-- at 0, the bytes at 1. Those behind are left, and there may be fewer.
abbrev known_added : Catalogue.Added
known_added = record { number = 1; count = 2; place = 3; rule = 4; answer = 5; catalogue = 6 ∷ []; work = 7 ∷ [] }

abbrev known_rechecked : Recheck.Rechecked
known_rechecked = record { number = 1; pairs = 2; written = 3; list = 4 ∷ []; work = 5 ∷ [] }

elements_known :
    telling_added (90 ∷ 91 ∷ 92 ∷ 93 ∷ 94 ∷ []) known_added ∷ telling_added (90 ∷ 91 ∷ 92 ∷ []) known_added
    ∷ telling_rechecked (90 ∷ 91 ∷ 92 ∷ []) known_rechecked ∷ telling_rechecked (90 ∷ []) known_rechecked ∷ []
    ≡ (2 ∷ 3 ∷ 4 ∷ 5 ∷ 94 ∷ []) ∷ (2 ∷ 3 ∷ 4 ∷ []) ∷ (2 ∷ 3 ∷ 92 ∷ []) ∷ (2 ∷ []) ∷ []
elements_known = refl
