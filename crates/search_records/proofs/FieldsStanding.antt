-- The standing fields from a number on, for a loop over the fields: a field that stands is the first of them, one that does not is
-- passed over. And what that makes of the records.
-- Follows from the definitions.
use Prim.Native.Nat.{ℕ, suc, ◌+◌, ◌-◌, ◌<◌}
use native.Mathlib.Numerals.{add-one}
use native.Mathlib.Omega.{arith}
use mathlib.Core.Path.{◌≡◌, refl, ◌∙◌}
use mathlib.Core.Bool.{not}
use mathlib.Core.List.{List, ◌∷◌, ◌++◌}
use lib.Dec.{eqb}
use lib.ListN.{length, get_or, take, length-append}
use lib.Seq.{get_or-take}
use Rattle.paper.specs.Lists.{from, only, keep, each}
use Rattle.paper.specs.Numbers.{fields}
use Rattle.paper.proofs.base.Tests.{neq_eqb}
use Rattle.search_records.specs.Records.{head_bytes, record_bytes, fields_with_sets, value_records}
use Rattle.search_records.proofs.Records.{length_record}

module _ (sets : List ℕ) where
  -- the standing fields with the number f or above
  abbrev pub standing_from : ℕ → List ℕ
  standing_from f = keep (λ (g : ℕ). not (eqb (get_or sets g 0) 0)) (from f (fields - f))

  step : (f : ℕ) → f < fields → standing_from f ≡ only (not (eqb (get_or sets f 0) 0)) f ++ standing_from (f + 1)
  step f h =
      let e : fields - f ≡ suc (fields - (f + 1)) = omega arith in
      rw (e, add-one)

  stands_first : (f : ℕ) → f < fields → (get_or sets f 0 ≡ 0 → ⊥) → standing_from f ≡ f ∷ standing_from (f + 1)
  stands_first f h n = step f h ∙ rw (neq_eqb (get_or sets f 0) 0 n)

  passed_over : (f : ℕ) → f < fields → get_or sets f 0 ≡ 0 → standing_from f ≡ standing_from (f + 1)
  passed_over f h e = step f h ∙ rw e

  module _ (text : ℕ → List ℕ) where
    -- the records of these fields
    abbrev pub records_from : ℕ → List ℕ
    records_from f = each (λ (g : ℕ). record_bytes g (text g)) (standing_from f)

    pub records_all : records_from 0 ≡ value_records sets text
    unfolding value_records fields_with_sets
    records_all = refl

    module _ (f : ℕ) (h : f < fields) where
      pub records_here : (get_or sets f 0 ≡ 0 → ⊥) → records_from f ≡ record_bytes f (text f) ++ records_from (f + 1)
      records_here e = rw (stands_first f h e)

      pub length_here : (get_or sets f 0 ≡ 0 → ⊥) → length (records_from f) ≡ head_bytes + length (text f) + length (records_from (f + 1))
      length_here e = rw (records_here e, length-append, length_record)

      pub records_passed : get_or sets f 0 ≡ 0 → records_from f ≡ records_from (f + 1)
      records_passed e = rw (passed_over f h e)

-- the first place set of a field, among those of the fields
pub set_among : (sets : List ℕ) (f : ℕ) → f < fields → get_or (take fields sets) f 0 ≡ get_or sets f 0
set_among sets f h = get_or-take fields sets f 0 h
