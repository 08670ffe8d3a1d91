-- Laws of a list that is made of rows of one length: f x for each x, n elements each. Where a row stands, and how long the list is.
-- Follows from the definition of `each` by induction on the list.
use Prim.Native.Nat.{ℕ, zero, suc, ◌+◌, ◌*◌, ◌<◌}
use native.Mathlib.Nat.{mul-zero, mul-suc}
use native.Mathlib.Omega.{arith}
use mathlib.Core.Path.{◌≡◌, refl, ◌∙◌}
use mathlib.Core.List.{List, [], ◌∷◌, ◌++◌, append-nil, Memᴰ}
use lib.ListN.{length, get_or, take, drop, length-append}
use lib.Seq.{take_at, drop_at, drop-drop}
use Rattle.paper.specs.Lists.{each}
use Rattle.paper.proofs.base.Listed.{each_append}

module _ {ℓ κ} {A : Type ℓ} {B : Type κ} (f : A → List B) where
  pub each_snoc : (l : List A) (x : A) → each f (l ++ (x ∷ [])) ≡ each f l ++ f x
  each_snoc l x = each_append f l (x ∷ []) ∙ rw append-nil

  module _ (n : ℕ) where
    -- every row has n elements
    abbrev pub Even : List A → Type ℓ
    Even l = (x : A) → Memᴰ x l → length (f x) ≡ n

    even_rest : {x : A} {l : List A} → Even (x ∷ l) → Even l
    even_rest h y d = h y (Memᴰ.tail d)

    pub length_rows : (l : List A) → Even l → length (each f l) ≡ n * length l
    length_rows [] h = rw mul-zero
    length_rows (x ∷ l) h =
        rw (length-append, h x (Memᴰ.head refl), length_rows l (even_rest h), mul-suc) (omega arith)

    -- the row with the number i
    pub row_at : (l : List A) (i : ℕ) (d : A) → Even l → i < length l → take n (drop (n * i) (each f l)) ≡ f (get_or l i d)
    row_at [] i d h k = absurd (omega arith)
    row_at (x ∷ l) zero d h k = rw (mul-zero, take_at (f x) (each f l) n (h x (Memᴰ.head refl)))
    row_at (x ∷ l) (suc i) d h k =
        let e : n * suc i ≡ n + n * i = rw mul-suc (omega arith) in
        rw (e, ← drop-drop (n * i) n (f x ++ each f l), drop_at (f x) (each f l) n (h x (Memᴰ.head refl)))
        (row_at l i d (even_rest h) (omega arith))
