-- The parts of what is worked out of a field's pattern (document 01, "Places"): "For every field and every place, the set of places that
-- may follow", the places that take each character, and the places that may be the last one of a text.
use Rattle.std.specs.Prelude.{ℕ, List}
use Rattle.base_places.specs.declared.PlaceTables.{PlaceTables}

abbrev pub follow_of : PlaceTables → List ℕ
follow_of t = t.follow

abbrev pub taking_of : PlaceTables → List ℕ
taking_of t = t.taking

abbrev pub last_of : PlaceTables → ℕ
last_of t = t.last
