-- What is put of a sheet, of a rule and of the rules of a catalogue, from their bytes, by where the fields' patterns stand in them and by how often
-- each field does: for all bytes. And a rule that is changed, as bytes.
use Rattle.std.specs.Prelude.{ℕ, zero, suc, List, [], ◌++◌, take, drop, Result, Ok, Err}
use Rattle.paper.specs.Alphabet.{Edition, edition_1, edition_2}
use Rattle.paper.specs.Rule.{Rule}
use Rattle.paper_carry.specs.Opened.{rule_saying, held_changed}
use Rattle.base_answers.specs.declared.Refusal.{Refusal}
use Rattle.base_codes.specs.Inner.{padded}
use Rattle.base_question.specs.Standings.{standing_times}
use Rattle.base_question.specs.declared.Body.{Body}
use Rattle.read_rule.specs.declared.Rule as Read
use Rattle.catalogue_form.specs.Kept.{rule_there}
use Rattle.carry_records.specs.Changing.{how_changed, changed_from}
use Rattle.carry_records.specs.declared.Change.{Change}

-- where the records of a sheet begin: behind `ED` and its byte
abbrev pub records_from : Edition → ℕ
records_from edition_1 = 0
records_from edition_2 = 3

-- the bytes in front of the patterns, then the records
abbrev pub put_whole : Change → List ℕ → ℕ → List Body → List ℕ → List ℕ
put_whole c s from bodies counts = take from s ++ changed_from c s from bodies counts

-- of a rule that was read of these bytes, behind "the mark `RU`"; nothing where none was
abbrev pub put_of : Change → List ℕ → Result Read.Rule Refusal → List ℕ
put_of c s (Ok r) = put_whole c (take r.bytes s) 2 r.bodies (standing_times r.side (padded []))
put_of c s (Err e) = []

-- the rule in front of the bytes
unfoldable pub rule_put : Change → List ℕ → List ℕ
rule_put c s = put_of c s (rule_there s)

-- how many bytes it has; none where none was read
abbrev pub bytes_there : Result Read.Rule Refusal → ℕ
bytes_there (Ok r) = r.bytes
bytes_there (Err e) = 0

-- so many rules, one behind the other
abbrev pub rules_put : Change → ℕ → List ℕ → List ℕ
rules_put c zero s = []
rules_put c (suc n) s = rule_put c s ++ rules_put c n (drop (bytes_there (rule_there s)) s)

-- a rule that is changed
abbrev pub rule_anew : Change → Rule → List ℕ
rule_anew c r = rule_saying (held_changed (how_changed c) r) r.side
