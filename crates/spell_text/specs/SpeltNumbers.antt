-- What the answers of spelling and of reading back tell, in numbers; and how many characters of a text have a shift sign.
use Rattle.std.specs.Prelude.{ℕ, ◌+◌, cond, List, [], ◌∷◌, eqb, Result, Ok, Err}
use Rattle.paper_spell.specs.FullAscii.{no_shift, shift_of}
use Rattle.paper_spell.specs.Spell.{SpellAnswer, spell_told}
use Rattle.base_answers.specs.AnswerNumbers.{written_numbers, number_alone}
use Rattle.base_answers.specs.declared.Numbers.{Numbers}
use Rattle.spell_text.specs.declared.SpellError.{SpellError}
use Rattle.spell_text.specs.declared.SpellError.TheVariants.{NotInTable, TooShort}

abbrev pub error_numbers : SpellError → Numbers
error_numbers NotInTable = number_alone 45
error_numbers TooShort = number_alone 46

abbrev pub spelt_numbers : Result ℕ SpellError → Numbers
spelt_numbers (Ok bytes) = written_numbers bytes
spelt_numbers (Err e) = error_numbers e

abbrev pub told_spelt : Result ℕ SpellError → List ℕ → SpellAnswer
told_spelt s out = let n = spelt_numbers s in spell_told n.number n.written out

abbrev pub shifts_in : List ℕ → ℕ
shifts_in [] = 0
shifts_in (c ∷ text) = cond (eqb (shift_of c) no_shift) 0 1 + shifts_in text
