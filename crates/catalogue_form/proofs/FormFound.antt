-- What the struct of a catalogue says of its form. Follows from the cases of `kept_of`.
use Prim.Native.Nat.{ℕ}
use mathlib.Core.Path.{◌≡◌, refl, ap}
use mathlib.Core.Bool.{Bool}
use mathlib.Core.List.{List}
use lib.ListN.{length}
use Rattle.std.specs.Prelude.{None, Some}
use Rattle.paper.specs.Rule.{Rule}
use Rattle.paper_catalogue.specs.Catalogue.{Form, no_catalogue, rules, unfit, form_by, form, used}
use Rattle.catalogue_form.specs.Kept.{kept_of, begins_of, OfFormBy, OfForm}
use Rattle.catalogue_form.specs.declared.Kept.{Kept}

none_of : (f : Form) → None ≡ kept_of f → f ≡ no_catalogue
none_of no_catalogue e = refl
none_of (rules l) e = cc

some_of : (unfit : Rule → Bool) (catalogue : List ℕ) (k : Kept) (f : Form) → form_by unfit catalogue ≡ f → Some k ≡ kept_of f → OfFormBy unfit catalogue k
some_of unfit catalogue k no_catalogue g e = cc
some_of unfit catalogue k (rules l) g e =
    let is : k ≡ record { rules = length l; used = used l; begins = begins_of l } = cc in
    record {
      rules_present = l;
      of_form = g;
      counted = ap (λ (x : Kept). x.rules) is;
      its_used = ap (λ (x : Kept). x.used) is;
      its_begins = ap (λ (x : Kept). x.begins) is;
    }

-- whichever rules are unfit
module _ (unfit : Rule → Bool) (catalogue : List ℕ) where
  pub no_rules_by : None ≡ kept_of (form_by unfit catalogue) → form_by unfit catalogue ≡ no_catalogue
  no_rules_by e = none_of (form_by unfit catalogue) e

  pub some_rules_by : (k : Kept) → Some k ≡ kept_of (form_by unfit catalogue) → OfFormBy unfit catalogue k
  some_rules_by k e = some_of unfit catalogue k (form_by unfit catalogue) refl e

module _ (catalogue : List ℕ) where
  pub no_rules : None ≡ kept_of (form catalogue) → form catalogue ≡ no_catalogue
  no_rules = no_rules_by unfit catalogue

  pub some_rules : (k : Kept) → Some k ≡ kept_of (form catalogue) → OfForm catalogue k
  some_rules = some_rules_by unfit catalogue
