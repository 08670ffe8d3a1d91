-- What a caller in another language is told beside the number.
use Rattle.std.specs.Prelude.{ℕ, List}
use Rattle.paper_spell.specs.Spell.{SpellAnswer}
use Rattle.c_tell.specs.ToldNumbers.{with_numbers}

-- of spelling and of reading back, which have no count and no place
abbrev pub telling_spell : List ℕ → SpellAnswer → List ℕ
telling_spell told s = with_numbers told 0 0 s.written
