-- Versions told, known by hand. The checker computes them.
use mathlib.Core.Path.{◌≡◌, refl}
use mathlib.Core.List.{[], ◌∷◌}
use Rattle.c_version.specs.VersionTold.{in_one_number}

pub versions_known : in_one_number 0 8 0 ∷ in_one_number 1 2 3 ∷ in_one_number 10 99 99 ∷ [] ≡ 800 ∷ 10203 ∷ 109999 ∷ []
versions_known = refl
