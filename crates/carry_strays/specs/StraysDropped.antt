-- What the answer to a catalogue whose strays are taken out tells, in numbers.
use Rattle.std.specs.Prelude.{ℕ, List, Result, Ok, Err}
use Rattle.paper_carry.specs.Spelling.{CarriedOver}
use Rattle.carry_strays.specs.declared.NoCatalogue.{NoCatalogue}

abbrev pub dropped_number : Result (Unit {0}) NoCatalogue → ℕ
dropped_number (Ok u) = 0
dropped_number (Err e) = 34

abbrev pub told_dropped : Result (Unit {0}) NoCatalogue → List ℕ → CarriedOver
told_dropped d catalogue = record { number = dropped_number d; catalogue = catalogue }
