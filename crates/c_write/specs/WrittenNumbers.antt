-- What a caller in another language is told beside the number.
use Rattle.std.specs.Prelude.{ℕ, List}
use Rattle.paper_carry.specs.Spelling.{Spelling}
use Rattle.c_tell.specs.ToldNumbers.{with_numbers}

-- of writing a sheet, which has no count
abbrev pub telling_written : List ℕ → Spelling → List ℕ
telling_written told s = with_numbers told 0 s.place s.written
