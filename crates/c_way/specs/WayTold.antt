-- What a caller in another language is told beside the number.
use Rattle.std.specs.Prelude.{ℕ, List}
use Rattle.paper_way.specs.WayOutcome.{Way}
use Rattle.c_tell.specs.ToldNumbers.{with_numbers}

-- of the way of given texts
abbrev pub telling_way : List ℕ → Way → List ℕ
telling_way told o = with_numbers told o.count o.place o.written
