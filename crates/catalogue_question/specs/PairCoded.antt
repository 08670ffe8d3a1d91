-- What a pair asks, for all sides and tables.
use Rattle.std.specs.Prelude.{ℕ, ◌+◌, ◌-◌, cond, ◌&&◌, List, ◌++◌, map, leb, ltb, get_or, take}
use Rattle.paper.specs.Numbers.{fields, rule_fields}
use Rattle.paper.specs.Alphabet.{code_39}
use Rattle.base_codes.specs.Inner.{field_code, no_token}
use Rattle.base_editions.specs.Editions.{alphabet_code}
use Rattle.base_places.specs.declared.PlaceTables.{PlaceTables}
use Rattle.base_question.specs.Bodies.{nowhere}
use Rattle.base_question.specs.declared.Body.{Body}
use Rattle.base_question.specs.declared.Question.{Question}
use Rattle.read_rule.specs.declared.Rule.{Rule}
use Rattle.search_tables.specs.Cut.{listed_by}

-- "with its fields as 4 to 7": the inner code of a field 4 higher, if that is a field's
abbrev pub moved_code : ℕ → ℕ
moved_code b = cond (leb field_code b && ltb (b + rule_fields) no_token) (b + rule_fields) b

-- what both rules have for their fields, by the fields' numbers in the pair
abbrev pub joined : {A : Type 0} → List A → List A → List A
joined first second = take rule_fields first ++ take rule_fields second

-- where their patterns stand: that of the field f in its own rule's bytes
abbrev pub body_of : List Body → List Body → ℕ → Body
body_of first second f = cond (ltb f rule_fields) (get_or first f nowhere) (get_or second (f - rule_fields) nowhere)

unfoldable pub pair_bodies : List Body → List Body → List Body
pair_bodies first second = listed_by (body_of first second) fields

-- what the pair asks, in Code 39
unfoldable pub pair_question : List ℕ → List ℕ → List PlaceTables → List PlaceTables → List Body → Question
pair_question left right first second bodies =
    record { alphabet = alphabet_code code_39; left = left; right = map moved_code right; fields = joined first second; bodies = bodies }

-- of two rules that were read
abbrev pub rules_question : Rule → Rule → Question
rules_question present new = pair_question present.side new.side present.fields new.fields (pair_bodies present.bodies new.bodies)
