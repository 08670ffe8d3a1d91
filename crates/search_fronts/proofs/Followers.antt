-- A set with no place has no followers. Follows from the definitions.
use Prim.Native.Nat.{ℕ}
use mathlib.Core.Path.{◌≡◌, refl}
use mathlib.Core.List.{List}
use Rattle.base_places.specs.Masks.{followers_of, mask_of, in_mask}

pub no_followers : (masks : List ℕ) → followers_of masks 0 ≡ 0
unfolding followers_of mask_of in_mask
no_followers masks = refl
