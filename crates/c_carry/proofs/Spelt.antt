-- What the answers of carrying over and their numbers say of its definitions. Follows from the definitions of the answers. And the elements, known
-- by hand.
use Prim.Native.Nat.{ℕ, ◌<◌}
use native.Mathlib.Omega.{arith}
use mathlib.Core.Path.{◌≡◌, refl, ap, ◌∙◌}
use mathlib.Core.List.{List, [], ◌∷◌}
use lib.Dec.{lit<}
use Rattle.paper_carry.specs.Spelling.{Spelling, spelling_told}
use Rattle.paper_carry.specs.Spelling as Spelling
use Rattle.paper_carry.proofs.CarryPromised.{fault_between}
use Rattle.base_answers.specs.Faults.{fault_of}
use Rattle.carry_anew.specs.Anew.{spelt_numbers, told_spelt}
use Rattle.std.specs.Prelude.{Result, Ok, Err}
use Rattle.carry_anew.specs.declared.RewriteError.{RewriteError}
use Rattle.carry_anew.specs.declared.RewriteError.TheVariants.{Refused, ForeignField, TooShort}
use Rattle.carry_open.specs.CarriedOver.{carried_number}
use Rattle.carry_open.specs.declared.CarryError.{CarryError}
use Rattle.carry_open.specs.declared.CarryError.TheVariants.{Full, NoCatalogue}
use Rattle.c_tell.specs.ToldNumbers.{with_numbers}
use Rattle.c_carry.specs.Carried.{telling_spelt}

-- 44 is the last of them
pub spelt_below : (s : Result ℕ RewriteError) → (spelt_numbers s).number < 45
spelt_below (Ok bytes) = lit< tt
spelt_below (Err (Refused r)) = let (low, high) = fault_between (fault_of r.fault) in omega arith
spelt_below (Err ForeignField) = lit< tt
spelt_below (Err TooShort) = lit< tt

pub carried_below : (c : Result (Unit {0}) CarryError) → carried_number c < 35
carried_below (Ok u) = lit< tt
carried_below (Err Full) = lit< tt
carried_below (Err NoCatalogue) = lit< tt

-- an answer that tells what was written, with its numbers told
pub spelt_promised :
    (s : Result ℕ RewriteError) {n : ℕ} {out : List ℕ} {o : Spelling} (before : List ℕ) {after : List ℕ} → told_spelt s out ≡ o
    → n ≡ (spelt_numbers s).number
    → after ≡ with_numbers before 0 (spelt_numbers s).place (spelt_numbers s).written
    → (n ≡ o.number) × ((after ≡ telling_spelt before o) × (out ≡ o.out))
spelt_promised s before whole named written = (
  named ∙ ap (λ (o : Spelling). o.number) whole,
  (written ∙ ap (telling_spelt before) whole, ap (λ (o : Spelling). o.out) whole),
)

-- and one that tells what became of a catalogue, by its number m
pub carried_promised : (m n : ℕ) {catalogue : List ℕ} {o : Spelling.CarriedOver} → record { number = m; catalogue = catalogue } ≡ o
    → n ≡ m → (n ≡ o.number) × (catalogue ≡ o.catalogue)
carried_promised m n whole named =
    (named ∙ ap (λ (o : Spelling.CarriedOver). o.number) whole, ap (λ (o : Spelling.CarriedOver). o.catalogue) whole)

-- Which element has which number: 0 at 0, for there is no count, the place at 1, the written length at 2. Those behind are left, and there may be
-- fewer.
abbrev known : Spelling
known = spelling_told 1 2 3 (4 ∷ [])

elements_known :
    telling_spelt (90 ∷ 91 ∷ 92 ∷ 93 ∷ []) known ∷ telling_spelt (90 ∷ 91 ∷ []) known ∷ [] ≡ (0 ∷ 2 ∷ 3 ∷ 93 ∷ []) ∷ (0 ∷ 2 ∷ []) ∷ []
elements_known = refl
