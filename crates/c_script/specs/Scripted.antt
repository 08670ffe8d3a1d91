-- What a caller in another language is told beside the number.
use Rattle.std.specs.Prelude.{ℕ, List}
use Rattle.paper_script.specs.Scripting.{Scripting}
use Rattle.c_tell.specs.ToldNumbers.{with_numbers}

-- of writing a script, which has no count
abbrev pub telling_scripted : List ℕ → Scripting → List ℕ
telling_scripted told s = with_numbers told 0 s.place s.written
