-- What a caller in another language is told beside the number.
use Rattle.std.specs.Prelude.{ℕ, List, set}
use Rattle.paper_plain.specs.Engine.{Engine, Needs}
use Rattle.base_answers.specs.declared.Numbers.{Numbers}
use Rattle.c_tell.specs.ToldNumbers.{with_numbers}

-- of the engine, in two elements
abbrev pub telling_plain : List ℕ → Engine → List ℕ
telling_plain told e = set (set told 0 e.count) 1 e.place

abbrev pub telling_numbers : List ℕ → Numbers → List ℕ
telling_numbers told n = set (set told 0 n.count) 1 n.place

-- of what a sheet needs, which has no count, in three
abbrev pub telling_needs : List ℕ → Needs → List ℕ
telling_needs told n = with_numbers told 0 n.place n.bytes
