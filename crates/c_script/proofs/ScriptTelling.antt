-- The elements of `telling_scripted`, known by hand.
use mathlib.Core.Path.{◌≡◌, refl}
use mathlib.Core.List.{[], ◌∷◌}
use Rattle.paper_script.specs.Scripting.{Scripting, scripting_told}
use Rattle.c_script.specs.Scripted.{telling_scripted}

-- Which element has which number: 0 at 0, for there is no count, the place at 1, the written length at 2. Those behind are left, and there may be
-- fewer.
abbrev known : Scripting
known = scripting_told 1 2 3 (4 ∷ [])

elements_known :
    telling_scripted (90 ∷ 91 ∷ 92 ∷ 93 ∷ []) known ∷ telling_scripted (90 ∷ 91 ∷ []) known ∷ [] ≡ (0 ∷ 2 ∷ 3 ∷ 93 ∷ []) ∷ (0 ∷ 2 ∷ []) ∷ []
elements_known = refl
