-- What reading a side hands on: its tokens by inner codes, and the next cursor.
use Rattle.std.specs.Prelude.{Result, Ok, Err}
use Rattle.paper.specs.Equation.{Side}
use Rattle.paper.specs.Sheet.{Mark, PA, LE, RI, RU, ED, Checked, fault, read}
use Rattle.base_codes.specs.Inner.{side_code, padded}
use Rattle.base_answers.specs.Faults.{as_fault}
use Rattle.base_answers.specs.declared.Refusal.{Refusal}
use Rattle.read_side.specs.declared.Mark as Code
use Rattle.read_side.specs.declared.Mark.TheVariants as Code-mark
use Rattle.read_side.specs.declared.SideRecord.{SideRecord}

abbrev pub mark_of : Code.Mark → Mark
mark_of Code-mark.PA = PA
mark_of Code-mark.LE = LE
mark_of Code-mark.RI = RI
mark_of Code-mark.RU = RU
mark_of Code-mark.ED = ED

-- a fault hands on its place
abbrev pub side_of : Checked Side → Result SideRecord Refusal
side_of (fault x at) = Err (record { fault = as_fault x; place = at })
side_of (read side next) = Ok (record { codes = padded (side_code side); next = record { at = next } })
