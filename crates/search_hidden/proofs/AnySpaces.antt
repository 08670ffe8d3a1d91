-- What the places of any number of spaces take:
--   leaf_takes_space : the leaf takes the space, and no place takes another character
--   taking_set       : so the masks are zeros with the leaf stored at the space
--   taking_none      : and all zeros where the space is none of them
-- Follows from the laws of tables.
use Prim.Native.Nat.{ℕ, ◌≤◌, ◌<◌}
use native.Mathlib.Omega.{arith}
use mathlib.Core.Path.{◌≡◌, refl, sym, ap, ◌∙◌}
use mathlib.Core.List.{List}
use mathlib.Core.Bool.{Bool, true, false, cond, ◌&&◌}
use lib.Dec.{eqb}
use lib.ListN.{length, get_or, set, replicate, length-replicate, length-set, get_or-replicate}
use lib.Seq.{ext_get_or, get_or-set_same, get_or-set_other}
use Rattle.paper.specs.Question.{any_spaces}
use Rattle.paper.proofs.base.Tests.{by_bool, cond_true, cond_false, eqb_true, eqb_false, neq_eqb}
use Rattle.base_places.specs.Masks.{mask_of, table, taking_mask}
use Rattle.base_places.proofs.Filling.{length_table, get_or_table, table_same, table_none}

leaf_if : (b : Bool) → mask_of (λ (q : ℕ). eqb 1 q && b) ≡ cond b 2 0
unfolding mask_of
leaf_if true = refl
leaf_if false = refl

leaf_takes_space : (space c : ℕ) → taking_mask (any_spaces space) c ≡ cond (eqb space c) 2 0
unfolding taking_mask
leaf_takes_space space c = leaf_if (eqb space c)

module _ (space n : ℕ) where
  abbrev masks : ℕ → ℕ
  masks c = taking_mask (any_spaces space) c

  abbrev zeros : List ℕ
  zeros = replicate n 0

  many : length zeros ≡ n
  many = length-replicate n 0

  pub taking_set : space < n → set zeros space 2 ≡ table masks n
  taking_set h =
      ext_get_or 0 (set zeros space 2) (table masks n)
      (length-set zeros space 2 ∙ many ∙ sym (length_table masks n))
      (λ c k.
      let below : c < n = omega (arith, length-set zeros space 2, many) in
      by_bool (eqb space c)
      (λ (e : eqb space c ≡ true).
      ap (λ (m : ℕ). get_or (set zeros space 2) m 0) (sym (eqb_true space c e))
      ∙ get_or-set_same zeros space 2 0 (omega (arith, many))
      ∙ sym (leaf_takes_space space c ∙ cond_true (eqb space c) 2 0 e)
      ∙ sym (get_or_table masks n c below))
      (λ (e : eqb space c ≡ false).
      let other = eqb_false space c e in
      get_or-set_other zeros space c 2 0 (λ (s : c ≡ space). other (sym s))
      ∙ get_or-replicate n c 0 0 below
      ∙ sym (leaf_takes_space space c ∙ cond_false (eqb space c) 2 0 e)
      ∙ sym (get_or_table masks n c below)))

  pub taking_none : n ≤ space → zeros ≡ table masks n
  taking_none h =
      sym (table_same masks (λ (c : ℕ). 0) n
      (λ c k. leaf_takes_space space c ∙ cond_false (eqb space c) 2 0 (neq_eqb space c (λ (e : space ≡ c). omega arith)))
      ∙ table_none n)
