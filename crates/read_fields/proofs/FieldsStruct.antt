-- What the answer of reading the patterns' records says. Follows from the cases of `fields_of`.
use mathlib.Core.Path.{◌≡◌, refl}
use mathlib.Core.List.{List, map}
use Rattle.std.specs.Prelude.{Ok, Err}
use Rattle.paper.specs.Sheet.{Records, faulty, records}
use Rattle.paper.specs.Sheet as Sheet
use Rattle.base_places.specs.WorkedOut.{worked_out}
use Rattle.base_question.specs.declared.Body.{Body}
use Rattle.base_answers.specs.Faults.{fault_of, as_fault}
use Rattle.base_answers.specs.declared.Refusal.{Refusal}
use Rattle.base_answers.proofs.Same.{same_paper}
use Rattle.read_fields.specs.Walk.{fields_of, tables_of}
use Rattle.read_fields.specs.declared.Fields.{Fields}

-- the patterns that stand there
pub record Stand (bodies : List Body) (x : Records Sheet.Fields) (p : Fields) : Type 0 where
  pub fields : Sheet.Fields
  pub reads : x ≡ records fields p.next.at
  pub above : p.above ≡ fields.above
  pub tables : tables_of x ≡ map worked_out fields.held
  pub bodies_are : p.bodies ≡ bodies

module _ (bodies : List Body) where
  pub fields_fault : (x : Records Sheet.Fields) (e : Refusal) → fields_of bodies x ≡ Err e → x ≡ faulty (fault_of e.fault) e.place
  fields_fault (faulty x at) e h =
      let same : record { fault = as_fault x; place = at } ≡ e = cc in
      rw (← same, same_paper x)
  fields_fault (records fs at) e h = absurd (cc)

  pub fields_stand : (x : Records Sheet.Fields) (p : Fields) → fields_of bodies x ≡ Ok p → Stand bodies x p
  fields_stand (faulty x at) p h = absurd (cc)
  fields_stand (records fs at) p h =
      let same : record { next = record { at = at }; above = fs.above; bodies = bodies } ≡ p = cc in
      rw (← same) (record { fields = fs; reads = refl; above = refl; tables = refl; bodies_are = refl })
