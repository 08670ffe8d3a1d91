-- Three numbers told, known by hand: which element has which, those behind are left, and there may be fewer. The checker computes them.
use mathlib.Core.Path.{◌≡◌, refl}
use mathlib.Core.List.{[], ◌∷◌}
use Rattle.c_tell.specs.ToldNumbers.{with_numbers}

pub numbers_known :
    with_numbers (90 ∷ 91 ∷ 92 ∷ 93 ∷ []) 1 2 3 ∷ with_numbers (90 ∷ 91 ∷ []) 1 2 3 ∷ with_numbers [] 1 2 3 ∷ []
    ≡ (1 ∷ 2 ∷ 3 ∷ 93 ∷ []) ∷ (1 ∷ 2 ∷ []) ∷ [] ∷ []
numbers_known = refl
