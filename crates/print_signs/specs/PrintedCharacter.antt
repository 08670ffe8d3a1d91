-- A character as it is printed: its shift sign, 43 where it has none, and the value behind it.
use Rattle.std.specs.Prelude.{ℕ, List}
use Rattle.paper.specs.Alphabet.{Edition, edition_1, edition_2}
use Rattle.paper_spell.specs.FullAscii.{no_shift, shift_of, value_of, spelt_by}

abbrev pub shift_printed : Edition → ℕ → ℕ
shift_printed edition_1 c = no_shift
shift_printed edition_2 c = shift_of c

abbrev pub value_printed : Edition → ℕ → ℕ
value_printed edition_1 c = c
value_printed edition_2 c = value_of c

-- its Code 39 values, one or two
unfoldable pub values_of_character : Edition → ℕ → List ℕ
values_of_character e c = spelt_by (shift_printed e c) (value_printed e c)
