-- What the answers of a catalogue say, in 02's numbers; and what its pairs give on the way.
use Rattle.std.specs.Prelude.{ℕ, ◌+◌, ◌≡◌, Bool, false, ◌||◌, List, map, leb, ltb, Result, Ok, Err}
use Rattle.paper.specs.Numbers.{catalogue_rules}
use Rattle.paper.specs.Sheet.{fault_number, records}
use Rattle.paper.specs.Rule.{Rule, read_rule, foreign_field}
use Rattle.paper.specs.Outcome.{room_of}
use Rattle.paper_catalogue.specs.PairAsking.{PairAsking}
use Rattle.paper_catalogue.specs.Catalogue.{Present, Pairs, all_answered_1, not_answered_1, pairs_by, AddedBy, work_behind, is_full}
use Rattle.paper_catalogue.specs.Catalogue as Catalogue
use Rattle.base_codes.specs.Inner.{side_code, padded}
use Rattle.base_places.specs.WorkedOut.{worked_out}
use Rattle.base_answers.specs.Faults.{fault_of}
use Rattle.read_rule.specs.RuleRead.{rule_bodies}
use Rattle.read_rule.specs.declared.Rule as Code
use Rattle.catalogue_form.specs.Kept.{OfForm}
use Rattle.catalogue_form.specs.declared.Kept.{Kept}
use Rattle.catalogue_question.specs.AskedBy.{told_pair}
use Rattle.catalogue_add.specs.declared.AddError.{AddError}
use Rattle.catalogue_add.specs.declared.AddError.TheVariants as Add-error
use Rattle.catalogue_add.specs.declared.NotApart.{NotApart}
use Rattle.catalogue_add.specs.declared.WithdrawError.{WithdrawError}
use Rattle.catalogue_add.specs.declared.WithdrawError.TheVariants as Withdraw-error

-- what adding tells, with both buffers as they are afterwards
abbrev pub told_added : Result (Unit {0}) AddError → List ℕ → List ℕ → Catalogue.Added
told_added (Ok u) catalogue work =
    record { number = 0; count = 0; place = 0; rule = 0; answer = 0; catalogue = catalogue; work = work }
told_added (Err (Add-error.Refused r)) catalogue work =
    record { number = fault_number (fault_of r.fault); count = 0; place = r.place; rule = 0; answer = 0; catalogue = catalogue; work = work }
told_added (Err (Add-error.NotApart n)) catalogue work =
    record { number = 30; count = n.pair.count; place = 0; rule = n.rule; answer = n.pair.answer; catalogue = catalogue; work = work }
told_added (Err Add-error.ForeignField) catalogue work =
    record { number = 31; count = 0; place = 0; rule = 0; answer = 0; catalogue = catalogue; work = work }
told_added (Err Add-error.Full) catalogue work =
    record { number = 32; count = 0; place = 0; rule = 0; answer = 0; catalogue = catalogue; work = work }
told_added (Err Add-error.NoCatalogue) catalogue work =
    record { number = 34; count = 0; place = 0; rule = 0; answer = 0; catalogue = catalogue; work = work }

-- the search that gave the pair's answer; 0 where no pair is told
abbrev pub search_of : Result (Unit {0}) AddError → ℕ
search_of (Ok u) = 0
search_of (Err (Add-error.Refused r)) = 0
search_of (Err (Add-error.NotApart n)) = n.pair.search
search_of (Err Add-error.ForeignField) = 0
search_of (Err Add-error.Full) = 0
search_of (Err Add-error.NoCatalogue) = 0

-- what adding tells, with that search
abbrev pub told_added_by : Result (Unit {0}) AddError → List ℕ → List ℕ → AddedBy
told_added_by a catalogue work = record { added = told_added a catalogue work; search = search_of a }

-- what withdrawing tells
abbrev pub told_withdrawn : Result (Unit {0}) WithdrawError → List ℕ → Catalogue.Withdrawn
told_withdrawn (Ok u) catalogue = record { number = 0; catalogue = catalogue }
told_withdrawn (Err Withdraw-error.NoRule) catalogue = record { number = 33; catalogue = catalogue }
told_withdrawn (Err Withdraw-error.NoCatalogue) catalogue = record { number = 34; catalogue = catalogue }

-- 32, by what was read
abbrev pub full_of : Kept → ℕ → ℕ → Bool
full_of k bytes room = leb catalogue_rules k.rules || ltb room (k.used + bytes)

-- what is known where the pairs are asked: the catalogue is of its form, and the new rule was read of these bytes, by itself
pub record ReadyToAsk (catalogue bytes : List ℕ) (kept : Kept) (new : Code.Rule) : Type 0 where
  pub standing : OfForm catalogue kept
  pub rule : Rule
  pub its_bytes : ℕ
  pub is_read : read_rule bytes ≡ records rule its_bytes
  pub own : foreign_field rule ≡ false
  pub side_is : new.side ≡ padded (side_code rule.side)
  pub fields_are : new.fields ≡ map worked_out rule.fields.held
  pub bodies_are : new.bodies ≡ rule_bodies bytes

-- what asking them gives
abbrev pub pairs_of : Result (Unit {0}) NotApart → Pairs
pairs_of (Ok u) = all_answered_1
pairs_of (Err n) = not_answered_1 n.rule (told_pair n.pair)

pub record PairsAsked (a : PairAsking) (rules_present : List Present) (rule : Rule) (work after : List ℕ) (r : Result (Unit {0}) NotApart) : Type 0 where
  pub pairs : pairs_of r ≡ pairs_by a 0 rules_present rule (room_of work)
  pub after_work : after ≡ work_behind rules_present work

-- what is known where a rule is entered or not
pub record Ready (catalogue bytes : List ℕ) (kept : Kept) (new : Code.Rule) : Type 0 where
  pub asks : ReadyToAsk catalogue bytes kept new
  pub room : is_full asks.standing.rules_present bytes catalogue ≡ false
