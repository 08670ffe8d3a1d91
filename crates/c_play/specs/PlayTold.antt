-- What a caller in another language is told beside the number.
use Rattle.std.specs.Prelude.{ℕ, List}
use Rattle.paper_steps.specs.Player.{Play}
use Rattle.c_tell.specs.ToldNumbers.{with_numbers}

-- of playing
abbrev pub telling_played : List ℕ → Play → List ℕ
telling_played told p = with_numbers told p.count p.place p.written
