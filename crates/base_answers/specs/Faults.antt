-- The code's faults and the paper's: the same nine, under the same names.
use Rattle.paper.specs.Sheet.{Fault, cut_short, wrong_mark, wrong_field, wrong_length, not_one_pattern, too_many_leaves, wrong_token, wrong_edition, stray_pattern}
use Rattle.base_answers.specs.declared.Fault as Code
use Rattle.base_answers.specs.declared.Fault.TheVariants.{CutShort, WrongMark, WrongField, WrongLength, NotOnePattern, TooManyLeaves, WrongToken, WrongEdition, StrayPattern}

abbrev pub fault_of : Code.Fault → Fault
fault_of CutShort = cut_short
fault_of WrongMark = wrong_mark
fault_of WrongField = wrong_field
fault_of WrongLength = wrong_length
fault_of NotOnePattern = not_one_pattern
fault_of TooManyLeaves = too_many_leaves
fault_of WrongToken = wrong_token
fault_of WrongEdition = wrong_edition
fault_of StrayPattern = stray_pattern

abbrev pub as_fault : Fault → Code.Fault
as_fault cut_short = CutShort
as_fault wrong_mark = WrongMark
as_fault wrong_field = WrongField
as_fault wrong_length = WrongLength
as_fault not_one_pattern = NotOnePattern
as_fault too_many_leaves = TooManyLeaves
as_fault wrong_token = WrongToken
as_fault wrong_edition = WrongEdition
as_fault stray_pattern = StrayPattern
