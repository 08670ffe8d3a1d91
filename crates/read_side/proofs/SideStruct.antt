-- What the answer of the checks on a side says. Follows from the cases of `side_of`.
use mathlib.Core.Path.{◌≡◌, refl}
use Rattle.std.specs.Prelude.{Ok, Err}
use Rattle.paper.specs.Equation.{Side}
use Rattle.paper.specs.Sheet.{Checked, fault, read}
use Rattle.base_codes.specs.Inner.{side_code, padded}
use Rattle.base_answers.specs.Faults.{fault_of, as_fault}
use Rattle.base_answers.specs.declared.Refusal.{Refusal}
use Rattle.base_answers.proofs.Same.{same_paper}
use Rattle.read_side.specs.SideRead.{side_of}
use Rattle.read_side.specs.declared.SideRecord.{SideRecord}

-- the side that stands there
pub record SideTold (x : Checked Side) (r : SideRecord) : Type 0 where
  pub side : Side
  pub reads : x ≡ read side r.next.at
  pub codes : r.codes ≡ padded (side_code side)

pub side_fault : (x : Checked Side) (e : Refusal) → side_of x ≡ Err e → x ≡ fault (fault_of e.fault) e.place
side_fault (fault x at) e h =
    let same : record { fault = as_fault x; place = at } ≡ e = cc in
    rw (← same, same_paper x)
side_fault (read side next) e h = cc

pub side_stands : (x : Checked Side) (r : SideRecord) → side_of x ≡ Ok r → SideTold x r
side_stands (fault x at) r h = absurd (cc)
side_stands (read side next) r h =
    let same : record { codes = padded (side_code side); next = record { at = next } } ≡ r = cc in
    rw (← same) (record { side = side; reads = refl; codes = refl })
