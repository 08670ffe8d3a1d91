-- What the answer of reading a sheet's front says of its edition. Follows from the cases of `front_of`.
use mathlib.Core.Path.{◌≡◌}
use Rattle.std.specs.Prelude.{Ok, Err}
use Rattle.paper.specs.Alphabet as Paper
use Rattle.paper.specs.Sheet.{Checked, fault, read}
use Rattle.base_answers.specs.Faults.{fault_of, as_fault}
use Rattle.base_answers.specs.declared.Refusal.{Refusal}
use Rattle.base_answers.proofs.Same.{same_paper}
use Rattle.base_editions.specs.Editions.{paper_edition, edition_code}
use Rattle.base_editions.proofs.Same.{same_edition}
use Rattle.read_sheet.specs.SheetRead.{front_of}
use Rattle.read_sheet.specs.declared.Front.{Front}

pub front_fault : (x : Checked Paper.Edition) (e : Refusal) → front_of x ≡ Err e → x ≡ fault (fault_of e.fault) e.place
front_fault (fault x at) e h =
    let same : record { fault = as_fault x; place = at } ≡ e = cc in
    rw (← same, same_paper x)
front_fault (read y at) e h = absurd (cc)

pub front_stands : (x : Checked Paper.Edition) (r : Front) → front_of x ≡ Ok r → x ≡ read (paper_edition r.edition) r.next.at
front_stands (fault x at) r h = absurd (cc)
front_stands (read y at) r h =
    let same : record { edition = edition_code y; next = record { at = at } } ≡ r = cc in
    rw (← same, same_edition y)
