-- Marks by number: what stands at a place, equal lists, one place stored anew, some place marked. Follows from the laws of `map` and `set`.
use Prim.Native.Nat.{ℕ, ◌<◌}
use native.Mathlib.Omega.{arith}
use mathlib.Core.Path.{◌≡◌, refl, sym, ap, ◌∙◌}
use mathlib.Core.Bool.{Bool, cond, ◌||◌}
use mathlib.Core.List.{List, [], ◌∷◌, map}
use lib.Dec.{eqb}
use lib.ListN.{length, get_or, set, length-map, length-set}
use lib.Seq.{ext_get_or, get_or-set_same, get_or-set_other}
use Rattle.paper.specs.Lists.{upto, any}
use Rattle.paper.proofs.base.Tests.{by_bool, cond_true, cond_false, eqb_true, eqb_false}
use Rattle.paper.proofs.base.Lists.{length_from}
use Rattle.paper.proofs.base.Listed.{get_or_map_upto}
use Rattle.search_tables.specs.Cut.{listed_by}

module _ {A : Type 0} (h : ℕ → A) (n : ℕ) where
  pub length_listed : length (listed_by h n) ≡ n
  unfolding listed_by
  length_listed = length-map (upto n) h ∙ length_from 0 n

  pub get_or_listed : (d : A) (i : ℕ) → i < n → get_or (listed_by h n) i d ≡ h i
  unfolding listed_by
  get_or_listed d i k = get_or_map_upto h d n i k

module _ {A : Type 0} (d : A) (h : ℕ → A) (n : ℕ) where
  -- a list of n that agrees at every place
  pub is_listed : (l : List A) → length l ≡ n → ((i : ℕ) → i < n → get_or l i d ≡ h i) → l ≡ listed_by h n
  is_listed l e k =
      ext_get_or d l (listed_by h n) (e ∙ sym (length_listed h n))
      (λ i b. let c : i < n = omega arith in k i c ∙ sym (get_or_listed h n d i c))

  pub listed_same : (g : ℕ → A) → ((i : ℕ) → i < n → g i ≡ h i) → listed_by g n ≡ listed_by h n
  listed_same g k = is_listed (listed_by g n) (length_listed g n) (λ i b. get_or_listed g n d i b ∙ k i b)

  pub listed_set : (g : ℕ → A) (i : ℕ) (x : A) → i < n → ((j : ℕ) → cond (eqb j i) x (g j) ≡ h j) → set (listed_by g n) i x ≡ listed_by h n
  listed_set g i x b k =
      is_listed (set (listed_by g n) i x) (length-set (listed_by g n) i x ∙ length_listed g n)
      (λ j c.
      by_bool (eqb j i)
      (λ (e : eqb j i ≡ _).
      ap (λ (m : ℕ). get_or (set (listed_by g n) i x) m d) (eqb_true j i e)
      ∙ get_or-set_same (listed_by g n) i x d (omega (arith, length_listed g n))
      ∙ sym (cond_true (eqb j i) x (g j) e) ∙ k j)
      (λ (e : eqb j i ≡ _).
      get_or-set_other (listed_by g n) i j x d (eqb_false j i e) ∙ get_or_listed g n d j c ∙ sym (cond_false (eqb j i) x (g j) e) ∙ k j))

-- some place is marked
any_map : (t : ℕ → Bool) (l : List ℕ) → any (λ (b : Bool). b) (map t l) ≡ any t l
any_map t [] = refl
any_map t (x ∷ l) = ap (λ (b : Bool). t x || b) (any_map t l)

pub any_listed : (t : ℕ → Bool) (n : ℕ) → any (λ (b : Bool). b) (listed_by t n) ≡ any t (upto n)
unfolding listed_by
any_listed t n = any_map t (upto n)
