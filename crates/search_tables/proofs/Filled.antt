-- A list filled one place after the other: the places below i hold h 0, h 1, .. . Follows from the laws of `set` and `take`.
use Prim.Native.Nat.{ℕ, suc, ◌+◌, ◌≤◌, ◌<◌}
use native.Mathlib.Numerals.{add-one}
use native.Mathlib.Omega.{arith}
use mathlib.Core.Path.{◌≡◌, refl, sym, ap, ap₂, ◌∙◌}
use mathlib.Core.List.{List, [], ◌∷◌, ◌++◌, map}
use lib.ListN.{length, take, set, length-set}
use lib.Seq.{take-suc-set, take_all}
use Rattle.paper.specs.Lists.{upto}
use Rattle.paper.proofs.base.Lists.{map_append}
use Rattle.paper.proofs.base.Listed.{upto_snoc}
use Rattle.search_tables.specs.Cut.{listed_by}

module _ {A : Type 0} (h : ℕ → A) (n : ℕ) where
  -- one more
  listed_suc : (i : ℕ) → listed_by h (suc i) ≡ listed_by h i ++ (h i ∷ [])
  unfolding listed_by
  listed_suc i = ap (map h) (upto_snoc i) ∙ map_append h (upto i) (i ∷ [])

  pub record Filled (d : List A) (i : ℕ) : Type 0 where
    pub at_most : i ≤ n
    pub long : length d ≡ n
    pub done : take i d ≡ listed_by h i

  pub filled_none : (d : List A) → length d ≡ n → Filled d 0
  unfolding listed_by
  filled_none d e = record { at_most = omega arith; long = e; done = refl }

  module _ (d : List A) (i : ℕ) (t : Filled d i) where
    pub filled_more : i < n → (x : A) → x ≡ h i → Filled (set d i x) (i + 1)
    filled_more k x e =
        let one_more : take (suc i) (set d i x) ≡ listed_by h (suc i) =
        take-suc-set d i x (omega (arith, t.long)) ∙ ap₂ (λ (l : List A) (y : A). l ++ (y ∷ [])) t.done e ∙ sym (listed_suc i) in
        record { at_most = omega arith; long = length-set d i x ∙ t.long; done = rw (add-one i) one_more }

    pub filled_all : n ≤ i → d ≡ listed_by h n
    filled_all k =
        let e : i ≡ n = omega (arith, t.at_most) in
        sym (take_all i d (omega (arith, t.long))) ∙ t.done ∙ ap (listed_by h) e
