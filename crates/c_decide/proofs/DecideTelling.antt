-- The elements, known by hand.
use mathlib.Core.Path.{◌≡◌, refl}
use mathlib.Core.List.{[], ◌∷◌}
use Rattle.paper_decide.specs.Deciding.{Decision}
use Rattle.c_decide.specs.Decided.{telling_decided}

-- Which element has which number: the count at 0, the place at 1, the written length at 2, the search at 3. Those behind are left, and there may be
-- fewer.
abbrev known : Decision
known = record { outcome = record { number = 1; count = 2; place = 3; written = 4; answer = 5 ∷ []; work = 6 ∷ [] }; search = 7 }

elements_known :
    telling_decided (90 ∷ 91 ∷ 92 ∷ 93 ∷ 94 ∷ []) known ∷ telling_decided (90 ∷ 91 ∷ 92 ∷ []) known ∷ []
    ≡ (2 ∷ 3 ∷ 4 ∷ 7 ∷ 94 ∷ []) ∷ (2 ∷ 3 ∷ 4 ∷ []) ∷ []
elements_known = refl
