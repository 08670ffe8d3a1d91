-- The code's fault is that of the paper, and the paper's that of the code; and the fault with a number. Follows from their cases.
use Prim.Native.Nat.{ℕ}
use mathlib.Core.Path.{◌≡◌, refl}
use mathlib.Core.Bool.{cond, true}
use lib.Dec.{eqb}
use Rattle.paper.specs.Buffers.{sheet_numbers}
use Rattle.paper.specs.Lists.{member}
use Rattle.paper.specs.Sheet as Paper
use Rattle.base_answers.specs.Faults.{fault_of, as_fault}
use Rattle.base_answers.specs.declared.Fault.{Fault}
use Rattle.base_answers.specs.declared.Fault.TheVariants.{CutShort, WrongMark, WrongField, WrongLength, NotOnePattern, TooManyLeaves, WrongToken, WrongEdition, StrayPattern}

pub same_fault : (x : Fault) → as_fault (fault_of x) ≡ x
same_fault CutShort = refl
same_fault WrongMark = refl
same_fault WrongField = refl
same_fault WrongLength = refl
same_fault NotOnePattern = refl
same_fault TooManyLeaves = refl
same_fault WrongToken = refl
same_fault WrongEdition = refl
same_fault StrayPattern = refl

pub same_paper : (x : Paper.Fault) → fault_of (as_fault x) ≡ x
same_paper Paper.cut_short = refl
same_paper Paper.wrong_mark = refl
same_paper Paper.wrong_field = refl
same_paper Paper.wrong_length = refl
same_paper Paper.not_one_pattern = refl
same_paper Paper.too_many_leaves = refl
same_paper Paper.wrong_token = refl
same_paper Paper.wrong_edition = refl
same_paper Paper.stray_pattern = refl

unfoldable pub fault_from : ℕ → Fault
fault_from n =
    cond (eqb n 11) CutShort
    (cond (eqb n 12) WrongMark
    (cond (eqb n 13) WrongField
    (cond (eqb n 14) WrongLength
    (cond (eqb n 15) NotOnePattern
    (cond (eqb n 16) TooManyLeaves
    (cond (eqb n 17) WrongToken
    (cond (eqb n 22) StrayPattern WrongEdition)))))))

-- a fault's number is one of a sheet's, and tells the fault
pub fault_among : (x : Fault) → member (Paper.fault_number (fault_of x)) sheet_numbers ≡ true
fault_among CutShort = refl
fault_among WrongMark = refl
fault_among WrongField = refl
fault_among WrongLength = refl
fault_among NotOnePattern = refl
fault_among TooManyLeaves = refl
fault_among WrongToken = refl
fault_among WrongEdition = refl
fault_among StrayPattern = refl

pub fault_numbered : (x : Fault) → fault_from (Paper.fault_number (fault_of x)) ≡ x
unfolding fault_from
fault_numbered CutShort = refl
fault_numbered WrongMark = refl
fault_numbered WrongField = refl
fault_numbered WrongLength = refl
fault_numbered NotOnePattern = refl
fault_numbered TooManyLeaves = refl
fault_numbered WrongToken = refl
fault_numbered WrongEdition = refl
fault_numbered StrayPattern = refl
