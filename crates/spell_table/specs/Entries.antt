-- A shift sign, or none, and the number that the table has for it; and a character that was looked up.
use Rattle.std.specs.Prelude.{ℕ, cond, eqb, ltb, Option, Some, None}
use Rattle.std.specs.Option.{unwrap_or}
use Rattle.paper_spell.specs.FullAscii.{ascii, no_shift}

abbrev pub shift_sign : ℕ → Option ℕ
shift_sign s = cond (eqb s no_shift) None (Some s)

abbrev pub shift_number : Option ℕ → ℕ
shift_number s = unwrap_or s no_shift

-- behind the last character there is none
abbrev pub found : ℕ → Option ℕ
found c = cond (ltb c ascii) (Some c) None
