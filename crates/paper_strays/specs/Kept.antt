-- Stray patterns taken out (request K13): "writes the sheet without them". From what was read by the old rule to what is written: the same, where a
-- field that stands in neither side has no pattern.
use Rattle.std.specs.Prelude.{ℕ, Bool, cond, List}
use Rattle.paper.specs.Lists.{each}
use Rattle.paper.specs.Pattern.{Held, some_text}
use Rattle.paper.specs.Question.{Question}
use Rattle.paper.specs.Rule.{Rule}
use Rattle.paper_catalogue.specs.Catalogue.{Present}
use Rattle.paper_carry.specs.Opened.{question_changed, rule_saying, held_changed}

abbrev pub if_it_stands : Bool → Held → Held
if_it_stands stands h = cond stands h some_text

abbrev pub without_strays : Question → Question
without_strays q = question_changed if_it_stands q

abbrev pub held_kept : Rule → List Held
held_kept r = held_changed if_it_stands r

unfoldable pub rule_kept : Rule → List ℕ
rule_kept r = rule_saying (held_kept r) r.side

unfoldable pub rules_kept : List Present → List ℕ
rules_kept l = each (λ (p : Present). rule_kept p.rule) l
