-- What a caller in another language is told beside the number.
use Rattle.std.specs.Prelude.{ℕ, List, set}
use Rattle.paper_decide.specs.Deciding.{Decision}
use Rattle.c_tell.specs.ToldNumbers.{with_numbers}

-- of a decision: count, place and written length, and the search
abbrev pub telling_decided : List ℕ → Decision → List ℕ
telling_decided told d =
    let o = d.outcome in set (with_numbers told o.count o.place o.written) 3 d.search
