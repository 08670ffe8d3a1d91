-- What the answers to a sheet and a rule that are written anew tell, in numbers; and what writing them anew is, by what was read of them.
use Rattle.std.specs.Prelude.{ℕ, ◌≡◌, cond, List, Result, Ok, Err}
use Rattle.paper.specs.Alphabet.{edition_1, edition_of}
use Rattle.paper.specs.Question.{Question}
use Rattle.paper.specs.Sheet.{fault_number, Records, faulty, records, Reading, refused, asked, read_before}
use Rattle.paper.specs.Rule.{Rule, read_rule_before, foreign_field}
use Rattle.paper.specs.Saying.{sheet_saying}
use Rattle.paper_carry.specs.Opened.{question_changed}
use Rattle.paper_carry.specs.Spelling.{Spelling, spelling_told, put_into}
use Rattle.base_answers.specs.Faults.{fault_of}
use Rattle.base_answers.specs.declared.Numbers.{Numbers}
use Rattle.base_answers.specs.declared.Refusal.{Refusal}
use Rattle.read_sheet.specs.SheetRead.{bodies_of, sheet_of}
use Rattle.read_sheet.specs.declared.Sheet.{Sheet}
use Rattle.read_rule.specs.RuleRead.{rule_bodies, rule_of}
use Rattle.read_rule.specs.declared.Rule as Read
use Rattle.carry_records.specs.Changing.{how_changed, InEdition}
use Rattle.carry_records.specs.declared.Change.{Change}
use Rattle.carry_put.specs.Putting.{rule_anew}
use Rattle.carry_anew.specs.declared.RewriteError.{RewriteError}
use Rattle.carry_anew.specs.declared.RewriteError.TheVariants.{Refused, ForeignField, TooShort}

abbrev pub spelt_numbers : Result ℕ RewriteError → Numbers
spelt_numbers (Ok bytes) = record { number = 0; count = 0; place = 0; written = bytes }
spelt_numbers (Err (Refused r)) = record { number = fault_number (fault_of r.fault); count = 0; place = r.place; written = 0 }
spelt_numbers (Err ForeignField) = record { number = 31; count = 0; place = 0; written = 0 }
spelt_numbers (Err TooShort) = record { number = 41; count = 0; place = 0; written = 0 }

abbrev pub told_spelt : Result ℕ RewriteError → List ℕ → Spelling
told_spelt s out = let n = spelt_numbers s in spelling_told n.number n.place n.written out

-- a sheet, by any reading of it
abbrev pub sheet_rewritten : Change → Reading → List ℕ → Spelling
sheet_rewritten c (refused x at) out = spelling_told (fault_number x) at 0 out
sheet_rewritten c (asked q) out = put_into (sheet_saying (question_changed (how_changed c) q)) out

-- It is what a reading hands on that asks what the reading before request K13 asks; and the change is in the sheet's edition.
pub record SheetRead (c : Change) (s : List ℕ) (x : Reading) (read : Result Sheet Refusal) : Type 0 where
  pub is : read ≡ sheet_of (bodies_of s) x
  pub before : (q : Question) → x ≡ asked q → read_before s ≡ asked q
  pub in_edition : (q : Question) → x ≡ asked q → InEdition (edition_of q.alphabet) c

-- a rule likewise
abbrev pub rule_rewritten : Change → Records Rule → List ℕ → Spelling
rule_rewritten c (faulty x at) out = spelling_told (fault_number x) at 0 out
rule_rewritten c (records r next) out = cond (foreign_field r) (spelling_told 31 0 0 out) (put_into (rule_anew c r) out)

pub record RuleRead (c : Change) (s : List ℕ) (x : Records Rule) (read : Result Read.Rule Refusal) : Type 0 where
  pub is : read ≡ rule_of (rule_bodies s) x
  pub before : (r : Rule) (n : ℕ) → x ≡ records r n → read_rule_before s ≡ records r n
  pub in_edition : InEdition edition_1 c
