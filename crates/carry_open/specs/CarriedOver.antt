-- What the answer to a catalogue that is carried over tells, in numbers.
use Rattle.std.specs.Prelude.{ℕ, List, Result, Ok, Err}
use Rattle.paper_carry.specs.Spelling as Spelling
use Rattle.carry_open.specs.declared.CarryError.{CarryError}
use Rattle.carry_open.specs.declared.CarryError.TheVariants.{Full, NoCatalogue}

abbrev pub carried_number : Result (Unit {0}) CarryError → ℕ
carried_number (Ok u) = 0
carried_number (Err Full) = 32
carried_number (Err NoCatalogue) = 34

abbrev pub told_carried : Result (Unit {0}) CarryError → List ℕ → Spelling.CarriedOver
told_carried c catalogue = record { number = carried_number c; catalogue = catalogue }
