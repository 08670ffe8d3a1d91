-- What reading the patterns' records hands on, and what the checks on one of them find.
use Rattle.std.specs.Prelude.{ℕ, suc, ◌+◌, ◌≤◌, ◌<◌, ◌≡◌, List, map, length, replicate, Result, Ok, Err}
use Rattle.paper.specs.Numbers.{fields}
use Rattle.paper.specs.Pattern.{Pattern, pattern, some_text}
use Rattle.paper.specs.Alphabet.{Edition}
use Rattle.paper.specs.Sheet.{fault, read, byte_at, pattern_record, Records, faulty, records}
use Rattle.paper.specs.Sheet as Sheet
use Rattle.base_places.specs.WorkedOut.{worked_out}
use Rattle.base_places.specs.declared.PlaceTables.{PlaceTables}
use Rattle.base_question.specs.declared.Body.{Body}
use Rattle.base_answers.specs.Faults.{fault_of, as_fault}
use Rattle.base_answers.specs.declared.Refusal.{Refusal}
use Rattle.read_fields.specs.Bodies.{body_at}
use Rattle.read_fields.specs.declared.Fields.{Fields}
use Rattle.read_fields.specs.declared.PatternRecord.{PatternRecord}

-- a fault hands on its place
abbrev pub fields_of : List Body → Records Sheet.Fields → Result Fields Refusal
fields_of bodies (faulty x at) = Err (record { fault = as_fault x; place = at })
fields_of bodies (records fs at) = Ok (record { next = record { at = at }; above = fs.above; bodies = bodies })

-- and what is worked out of each field's pattern; with a fault all fields are open
abbrev pub tables_of : Records Sheet.Fields → List PlaceTables
tables_of (faulty x at) = replicate fields (worked_out some_text)
tables_of (records fs at) = map worked_out fs.held

-- a pattern's record is read, and reading goes on behind it
pub record PatternStands (e : Edition) (s : List ℕ) (at least : ℕ) (r : PatternRecord) : Type 0 where
  pub its : Pattern
  pub reads : pattern_record e s at least ≡ read (record { field = r.field; its = its }) r.next.at
  pub works : r.tables ≡ worked_out (pattern its)
  pub stands : r.body ≡ body_at s at
  pub field : r.field ≡ byte_at s (at + 2)
  pub ends : r.next.at ≡ at + (4 + byte_at s (at + 3))
  pub known : r.field < fields
  pub rises : r.next.above ≡ suc r.field
  pub moves : at < r.next.at
  pub goes_on : r.next.at ≤ length s

-- what the checks on a pattern's record find
abbrev pub PatternRead : Edition → List ℕ → ℕ → ℕ → Result PatternRecord Refusal → Type 0
PatternRead e s at least (Ok r) = PatternStands e s at least r
PatternRead e s at least (Err x) = pattern_record e s at least ≡ fault (fault_of x.fault) x.place
