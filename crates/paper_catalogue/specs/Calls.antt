-- What is to be proved of a catalogue (request K1): "after any calls from an empty catalogue, no label can be made by two of its rules".
use Rattle.std.specs.Prelude.{ℕ, ◌<◌, ◌≡◌, cond, List, [], ◌∷◌, eqb, length, get_or, replicate}
use Rattle.paper.specs.Numbers.{space}
use Rattle.paper.specs.Equation.{Same}
use Rattle.paper.specs.Sheet.{open_fields, asked, read_sheet}
use Rattle.paper.specs.Outcome.{room_of, outcome}
use Rattle.paper.specs.Rule.{Rule, Makes, pair}
use Rattle.paper.specs.Saying.{sheet_saying}
use Rattle.paper_catalogue.specs.PairAsking.{PairAsking, pair_answer, pair_count}
use Rattle.paper_catalogue.specs.Catalogue.{Present, rules, form, adding_by, withdrawing}

-- a call: a rule's bytes to add, with a working buffer, by one of the kinds of adding; or a number to withdraw. Any bytes, any numbers.
pub data Call (Kind : Type 0) : Type 0 where
  add : Kind → List ℕ → List ℕ → Call Kind
  withdraw : ℕ → Call Kind

-- the catalogue after a call, and after one call behind the other; each kind is a way to ask a pair
module _ {Kind : Type 0} (asking : Kind → PairAsking) where
  abbrev pub after_call : List ℕ → Call Kind → List ℕ
  after_call catalogue (add k bytes work) = (adding_by (asking k) catalogue bytes work).added.catalogue
  after_call catalogue (withdraw i) = (withdrawing catalogue i).catalogue

  abbrev pub after_calls : List ℕ → List (Call Kind) → List ℕ
  after_calls catalogue [] = catalogue
  after_calls catalogue (c ∷ calls) = after_calls (after_call catalogue c) calls

-- "an empty catalogue" of n bytes
abbrev pub empty_catalogue : ℕ → List ℕ
empty_catalogue n = replicate n 0

-- what stands with the number i; behind the last a rule without tokens and without bytes
abbrev pub behind_last : Present
behind_last = record { rule = record { side = []; fields = open_fields }; bytes = 0 }

abbrev pub present_at : List Present → ℕ → Present
present_at l i = get_or l i behind_last

abbrev pub rule_at : List Present → ℕ → Rule
rule_at l i = (present_at l i).rule

-- "no label can be made by two of its rules": no two of them make labels that are the same
pub record Apart (catalogue : List ℕ) : Type 0 where
  pub rules_present : List Present
  -- "The catalogue stays of its form after every call."
  pub of_form : form catalogue ≡ rules rules_present
  pub apart : (i j : ℕ) → i < length rules_present → j < length rules_present → (i ≡ j → ⊥)
      → (l m : List ℕ) → Same space l m → Makes (rule_at rules_present i) l → Makes (rule_at rules_present j) m → ⊥

-- a clash is 0: "a pair's texts are not written, so it can't give 20"
abbrev pub without_20 : ℕ → ℕ
without_20 n = cond (eqb n 20) 0 n

-- "Demands 2 and 3 read each pair as a sheet of its own": the sheet that says the pair, lent the same room and any answer buffer, gets the
-- pair's count and the pair's answer, where a clash is 0 whether or not its texts fit.
pub record OwnSheet (present new : Rule) (work answer : List ℕ) : Type 0 where
  pub asks : read_sheet (sheet_saying (pair present new)) ≡ asked (pair present new)
  pub count : (outcome (sheet_saying (pair present new)) work answer).count ≡ pair_count present new (room_of work)
  pub number : pair_answer present new (room_of work) ≡ without_20 (outcome (sheet_saying (pair present new)) work answer).number
