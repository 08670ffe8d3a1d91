-- Where a field's pattern stands: nowhere, where the field has none.
use Rattle.std.specs.Prelude.{ℕ, ◌-◌, List, replicate}
use Rattle.paper.specs.Numbers.{fields}
use Rattle.base_question.specs.declared.Body.{Body}

abbrev pub nowhere : Body
nowhere = record { start = 0; length = 0 }

-- where its record's mark stands, before the field byte, the length byte and the pattern
abbrev pub mark_of : Body → ℕ
mark_of b = b.start - 4

-- no field has one
abbrev pub no_bodies : List Body
no_bodies = replicate fields nowhere
