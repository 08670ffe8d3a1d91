-- What a caller in another language is told beside the number.
use Rattle.std.specs.Prelude.{ℕ, List}
use Rattle.paper.specs.Outcome.{Outcome}
use Rattle.c_tell.specs.ToldNumbers.{with_numbers}

-- those of an outcome
abbrev pub telling : List ℕ → Outcome → List ℕ
telling told o = with_numbers told o.count o.place o.written
