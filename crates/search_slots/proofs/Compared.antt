-- Laws of comparing byte by byte. Follows from the laws of tests and of `same_by`.
use Prim.Native.Nat.{ℕ}
use mathlib.Core.Path.{◌≡◌, refl}
use mathlib.Core.Bool.{true}
use mathlib.Core.List.{List, [], ◌∷◌}
use lib.Dec.{eqb}
use lib.Pointwise.{pointwise}
use Rattle.paper.specs.Lists.{same_by}
use Rattle.paper.proofs.base.Tests.{eqb_true, eqb_same}
use Rattle.paper.proofs.base.Lists.{same_by_equal, same_by_same}

-- the library's test of equality is the same
pub pointwise_is : (a b : List ℕ) → pointwise eqb a b ≡ same_by eqb a b
pointwise_is [] [] = refl
pointwise_is [] (y ∷ b) = refl
pointwise_is (x ∷ a) [] = refl
pointwise_is (x ∷ a) (y ∷ b) = rw (pointwise_is a b)

pub bytes_equal : (l m : List ℕ) → same_by eqb l m ≡ true → l ≡ m
bytes_equal l m t = same_by_equal eqb eqb_true l m t

pub equal_bytes : (l m : List ℕ) → l ≡ m → same_by eqb l m ≡ true
equal_bytes l m e = rw e (same_by_same eqb eqb_same m)
