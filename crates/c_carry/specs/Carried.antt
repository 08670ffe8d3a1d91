-- What a caller in another language is told beside the number.
use Rattle.std.specs.Prelude.{ℕ, List}
use Rattle.paper_carry.specs.Spelling.{Spelling}
use Rattle.c_tell.specs.ToldNumbers.{with_numbers}

-- of carrying over, which has no count
abbrev pub telling_spelt : List ℕ → Spelling → List ℕ
telling_spelt told s = with_numbers told 0 s.place s.written
