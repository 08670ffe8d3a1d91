-- What reading a rule hands on: the fault with its place, or how many bytes it has, whether it names a field above 3, its side by inner
-- codes, what is worked out of its fields' patterns and where those stand.
use Rattle.std.specs.Prelude.{ℕ, ◌+◌, Bool, ◌&&◌, not, List, [], map, leb, eqb, Result, Ok, Err}
use Rattle.paper.specs.Numbers.{rule_fields}
use Rattle.paper.specs.Rule.{foreign_field}
use Rattle.paper.specs.Rule as Paper
use Rattle.paper.specs.Sheet.{Records, faulty, records}
use Rattle.base_codes.specs.Inner.{field_code, no_token, side_code, padded}
use Rattle.base_places.specs.WorkedOut.{worked_out}
use Rattle.base_question.specs.StraysCoded.{strays_coded}
use Rattle.base_question.specs.declared.Body.{Body}
use Rattle.base_answers.specs.Faults.{as_fault}
use Rattle.base_answers.specs.declared.Refusal.{Refusal}
use Rattle.read_fields.specs.Bodies.{bodies_in}
use Rattle.read_rule.specs.declared.Rule.{Rule}

-- the inner code of a field above 3
abbrev pub foreign_code : ℕ → Bool
foreign_code b = leb (field_code + rule_fields) b && not (eqb b no_token)

-- where the patterns of the rule stand: behind "the mark `RU`"
unfoldable pub rule_bodies : List ℕ → List Body
rule_bodies s = bodies_in s 2

-- the fields with a pattern that don't stand: a rule has one side
abbrev pub rule_strays_coded : List Body → List ℕ → List ℕ
rule_strays_coded bodies side = strays_coded bodies side (padded [])

-- what reading a rule hands on, its patterns standing there
abbrev pub rule_of : List Body → Records Paper.Rule → Result Rule Refusal
rule_of bodies (faulty x at) = Err (record { fault = as_fault x; place = at })
rule_of bodies (records r next) =
    Ok
    (record {
      bytes = next;
      foreign = foreign_field r;
      side = padded (side_code r.side);
      fields = map worked_out r.fields.held;
      bodies = bodies;
    })

-- the same where the rule was lent
abbrev pub rule_with : Result (Unit {0}) Refusal → Rule → Result Rule Refusal
rule_with (Ok u) r = Ok r
rule_with (Err e) r = Err e
