-- What a caller in another language is told beside the number.
use Rattle.std.specs.Prelude.{ℕ, List, set}
use Rattle.paper_steps.specs.StepsOutcome.{StepsOutcome}
use Rattle.c_tell.specs.ToldNumbers.{with_numbers}

-- of the search that writes its way: count, place and written length, and the bytes of steps
abbrev pub telling_steps : List ℕ → StepsOutcome → List ℕ
telling_steps told o = set (with_numbers told o.count o.place o.written) 3 o.step_bytes
