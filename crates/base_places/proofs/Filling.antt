-- Tables: f 0, f 1, .. . What stands at a place, equal tables, and filling a list place by place: after i stores it is the table's
-- first i numbers and the rest of what it was.
use Prim.Native.Nat.{ℕ, zero, suc, ◌+◌, ◌≤◌, ◌<◌, zero-le}
use native.Mathlib.Numerals.{add-one}
use native.Mathlib.Omega.{arith}
use mathlib.Core.Path.{◌≡◌, refl, sym, ap, ap₂, ◌∙◌}
use mathlib.Core.List.{List, [], ◌∷◌, ◌++◌, map, append-nil, append_assoc}
use lib.ListN.{length, get_or, set, drop, replicate, length-map, length-set, drop_of_length-le}
use lib.Seq.{drop-cons, set_at, get_or_at}
use Rattle.paper.proofs.base.Listed.{upto_snoc, get_or_map_upto}
use Rattle.paper.specs.Lists.{from, upto}
use Rattle.paper.proofs.base.Lists.{cons_eq, length_from, map_append}
use Rattle.base_places.specs.Masks.{table}

pub length_table : (f : ℕ → ℕ) (n : ℕ) → length (table f n) ≡ n
unfolding table
length_table f n = length-map (upto n) f ∙ length_from 0 n

-- the last number of a row
table_suc : (f : ℕ → ℕ) (n : ℕ) → table f (suc n) ≡ table f n ++ (f n ∷ [])
unfolding table
table_suc f n = ap (map f) (upto_snoc n) ∙ map_append f (upto n) (n ∷ [])

pub get_or_table : (f : ℕ → ℕ) (n i : ℕ) → i < n → get_or (table f n) i 0 ≡ f i
unfolding table
get_or_table f n i h = get_or_map_upto f 0 n i h

pub table_same : (f g : ℕ → ℕ) (n : ℕ) → ((i : ℕ) → i < n → f i ≡ g i) → table f n ≡ table g n
unfolding table
table_same f g zero h = refl
table_same f g (suc n) h =
    table_suc f n
    ∙ ap₂ (λ (l : List ℕ) (x : ℕ). l ++ (x ∷ [])) (table_same f g n (λ i l. h i (omega arith))) (h n (omega arith))
    ∙ sym (table_suc g n)

pub table_none : (n : ℕ) → table (λ (i : ℕ). 0) n ≡ replicate n 0
unfolding table
table_none n = none_from 0 n
  where
    none_from : (a n : ℕ) → map {B = ℕ} (λ (i : ℕ). 0) (from a n) ≡ replicate n 0
    none_from a zero = refl
    none_from a (suc n) = cons_eq refl (none_from (suc a) n)

-- Filling d₀ with the table's numbers, place by place: the list d after i stores.
pub record Filling (f : ℕ → ℕ) (d₀ d : List ℕ) (i : ℕ) : Type 0 where
  pub at : i ≤ length d₀
  pub long : length d ≡ length d₀
  pub is : d ≡ table f i ++ drop i d₀

module _ (f : ℕ → ℕ) (d₀ : List ℕ) where
  pub filling_none : Filling f d₀ d₀ 0
  unfolding table
  filling_none = record { at = zero-le; long = refl; is = refl }

  module _ (d : List ℕ) (i : ℕ) (l : Filling f d₀ d i) where
    pub filling_all : length d₀ ≤ i → d ≡ table f (length d₀)
    filling_all h =
        let e : i ≡ length d₀ = omega arith in
        l.is
        ∙ ap (λ (r : List ℕ). table f i ++ r) (drop_of_length-le d₀ h)
        ∙ append-nil (table f i)
        ∙ ap (table f) e

    module _ (h : i < length d₀) where
      split : d ≡ table f i ++ get_or d₀ i 0 ∷ drop (suc i) d₀
      split = l.is ∙ ap (λ (r : List ℕ). table f i ++ r) (drop-cons d₀ i 0 h)

      -- what is still to be replaced
      pub filling_read : get_or d i 0 ≡ get_or d₀ i 0
      filling_read = rw split (get_or_at (table f i) (get_or d₀ i 0) (drop (suc i) d₀) 0 i (length_table f i))

      pub filling_more : (x : ℕ) → x ≡ f i → Filling f d₀ (set d i x) (i + 1)
      filling_more x e =
          record {
            at = omega arith;
            long = length-set d i x ∙ l.long;
            is =
                rw (split, set_at (table f i) (get_or d₀ i 0) (drop (suc i) d₀) x i (length_table f i), e, add-one i, table_suc f i)
                (sym (append_assoc (table f i) (f i ∷ []) (drop (suc i) d₀)));
          }
