-- Three numbers in the first three elements. `set` past the end changes nothing, so there are as many as there is room for.
use Rattle.std.specs.Prelude.{ℕ, List, set}

abbrev pub with_numbers : List ℕ → ℕ → ℕ → ℕ → List ℕ
with_numbers told count place third = set (set (set told 0 count) 1 place) 2 third
