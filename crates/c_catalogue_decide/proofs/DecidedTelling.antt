-- What an addition by deciding and its numbers say of `adding_decided`. Follows from what the catalogue's answers say (`CatalogueTelling`).
use Prim.Native.Nat.{ℕ}
use mathlib.Core.Path.{◌≡◌, ap, ◌∙◌}
use mathlib.Core.List.{List}
use lib.ListN.{set}
use Rattle.paper_catalogue.specs.Catalogue.{AddedBy}
use Rattle.catalogue_add.specs.Addition.{told_added_by}
use Rattle.std.specs.Prelude.{Result}
use Rattle.catalogue_add.specs.declared.AddError.{AddError}
use Rattle.catalogue_numbers.specs.CatalogueNumbers.{numbers_of_added}
use Rattle.catalogue_numbers.specs.declared.Numbers.{Numbers}
use Rattle.c_catalogue.specs.Catalogued.{telling_numbers}
use Rattle.c_catalogue.proofs.CatalogueTelling.{added_promised}
use Rattle.c_catalogue_decide.specs.CatalogueDecided.{telling_added_by}

-- an answer that tells the addition, with its numbers named and written
pub decided_promised :
    (a : Result (Unit {0}) AddError) (numbers : Numbers) {catalogue work : List ℕ} {o : AddedBy} (before : List ℕ) {four five : List ℕ}
    → told_added_by a catalogue work ≡ o
    → numbers ≡ numbers_of_added a
    → four ≡ telling_numbers before numbers
    → five ≡ set four 4 numbers.search
    → (numbers.number ≡ o.added.number) × ((five ≡ telling_added_by before o) × ((catalogue ≡ o.added.catalogue) × (work ≡ o.added.work)))
decided_promised a numbers {o = o} before {four = four} whole named fourth fifth =
    let p = added_promised a numbers before (ap (λ (o : AddedBy). o.added) whole) named fourth in
    let its_search : numbers.search ≡ o.search = ap (λ (n : Numbers). n.search) named ∙ ap (λ (o : AddedBy). o.search) whole in (
      p.0,
      (
        fifth ∙ ap (set four 4) its_search ∙ ap (λ (l : List ℕ). set l 4 o.search) p.1.0,
        p.1.1,
      ),
    )
