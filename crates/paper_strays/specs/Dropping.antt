-- Taking the stray patterns out of a sheet, a rule and a whole catalogue (request K13): from any lists of bytes to the number, the place, the bytes
-- written and the buffer afterwards; and what is promised of it.
use Rattle.std.specs.Prelude.{ℕ, ◌-◌, ◌≤◌, ◌<◌, ◌≡◌, ◌↔◌, false, cond, List, [], ◌∷◌, ◌++◌, length, take, drop, replicate}
use Rattle.paper.specs.Numbers.{space}
use Rattle.paper.specs.Equation.{Same}
use Rattle.paper.specs.Question.{Question}
use Rattle.paper.specs.Sheet.{fault_number, Records, faulty, records, Reading, refused, asked, read_before, read_sheet}
use Rattle.paper.specs.Rule.{Rule, Makes, read_rule_before, read_rule, foreign_field}
use Rattle.paper.specs.Saying.{sheet_saying}
use Rattle.paper.specs.Outcome.{outcome_of}
use Rattle.paper_decide.specs.Deciding.{decision_of}
use Rattle.paper_plain.specs.Engine.{engine_of, needs_of}
use Rattle.paper_catalogue.specs.PairAsking.{PairAsking, by_search}
use Rattle.paper_catalogue.specs.Catalogue.{Present, Form, no_catalogue, rules, form, form_before}
use Rattle.paper_catalogue.specs.Calls.{Call, after_call, rule_at, Apart}
use Rattle.paper_catalogue_decide.specs.DecidedPairs.{by_deciding}
use Rattle.paper_carry.specs.Spelling.{Spelling, spelling_told, put_into, CarriedOver}
use Rattle.paper_strays.specs.Kept.{without_strays, rule_kept, rules_kept}

-- a sheet: "refusals the old rule's own, .. then 41"
abbrev pub dropping_of : Reading → List ℕ → Spelling
dropping_of (refused x at) out = spelling_told (fault_number x) at 0 out
dropping_of (asked q) out = put_into (sheet_saying (without_strays q)) out

unfoldable pub dropping : List ℕ → List ℕ → Spelling
dropping sheet out = dropping_of (read_before sheet) out

-- a rule: "then 31 in a rule (a stray pattern's field above 3 too, as before), then 41"
abbrev pub rule_dropping_of : Records Rule → List ℕ → Spelling
rule_dropping_of (faulty x at) out = spelling_told (fault_number x) at 0 out
rule_dropping_of (records r next) out = cond (foreign_field r) (spelling_told 31 0 0 out) (put_into (rule_kept r) out)

unfoldable pub rule_dropping : List ℕ → List ℕ → Spelling
rule_dropping rule out = rule_dropping_of (read_rule_before rule) out

-- "a whole catalogue in its own buffer (rules keep their numbers and their order, the freed bytes at the end are zero)": 34 where it was none
abbrev pub dropped_of : Form → List ℕ → CarriedOver
dropped_of no_catalogue catalogue = record { number = 34; catalogue = catalogue }
dropped_of (rules l) catalogue =
    record { number = 0; catalogue = rules_kept l ++ replicate (length catalogue - length (rules_kept l)) 0 }

unfoldable pub catalogue_dropping : List ℕ → CarriedOver
catalogue_dropping catalogue = dropped_of (form_before catalogue) catalogue

-- The bytes are a sheet of today, and "every answer about it stays as it was": the outcome of the old sheet by the old rule is the outcome of the
-- new one, in every number and byte.
pub record DroppedSheet (q : Question) (bytes : List ℕ) : Type 0 where
  pub new : Question
  pub asks : read_sheet bytes ≡ asked new
  pub same_outcome : (work answer : List ℕ) → outcome_of (asked new) work answer ≡ outcome_of (asked q) work answer
  pub same_decision : (work answer : List ℕ) → decision_of (asked new) work answer ≡ decision_of (asked q) work answer
  pub same_engine : (bits : List ℕ) → engine_of (asked new) bits ≡ engine_of (asked q) bits
  pub same_needs : needs_of (asked new) ≡ needs_of (asked q)

-- The bytes are a rule of today, and "a rule makes the labels it made".
pub record DroppedRule (r : Rule) (bytes : List ℕ) : Type 0 where
  pub new : Rule
  pub reads : read_rule bytes ≡ records new (length bytes)
  pub own_fields : foreign_field new ≡ false
  pub same_side : new.side ≡ r.side
  pub same_labels : (l : List ℕ) → Makes r l ↔ Makes new l

-- The buffer is a catalogue of today of as many rules, each makes the labels that it made, and "a catalogue's pairs keep their answers and counts".
pub record DroppedCatalogue (l : List Present) (catalogue : List ℕ) : Type 0 where
  pub new : List Present
  pub of_form : form catalogue ≡ rules new
  pub as_many : length new ≡ length l
  pub same_labels : (i : ℕ) → i < length l → (w : List ℕ) → Makes (rule_at l i) w ↔ Makes (rule_at new i) w
  pub same_pairs : (i j : ℕ) → i < length l → j < length l → (room : ℕ)
      → by_search.asks (rule_at new i) (rule_at new j) room ≡ by_search.asks (rule_at l i) (rule_at l j) room
  pub same_decided : (i j : ℕ) → i < length l → j < length l → (room : ℕ)
      → by_deciding.asks (rule_at new i) (rule_at new j) room ≡ by_deciding.asks (rule_at l i) (rule_at l j) room

-- no two of the rules make labels that are the same
abbrev pub AllApart : List Present → Type 0
AllApart l = (i j : ℕ) → i < length l → j < length l → (i ≡ j → ⊥)
    → (u w : List ℕ) → Same space u w → Makes (rule_at l i) u → Makes (rule_at l j) w → ⊥

-- What is promised: of every sheet and every buffer. A buffer as long as the sheet is always enough.
pub record DropPromised (sheet out : List ℕ) (s : Spelling) : Type 0 where
  pub dropped : (q : Question) → read_before sheet ≡ asked q → s.number ≡ 0 → DroppedSheet q (take s.written s.out)
  pub nothing_to_drop : (q : Question) → read_sheet sheet ≡ asked q → s.number ≡ 0 → take s.written s.out ≡ sheet
  pub unchanged : (s.number ≡ 0 → ⊥) → s.out ≡ out
  pub rest : drop s.written s.out ≡ drop s.written out
  pub fits : s.written ≤ length out
  pub same_length : length s.out ≡ length out
  pub enough : length sheet ≤ length out → s.number ≡ 41 → ⊥

-- of every rule and every buffer
pub record RuleDropPromised (rule out : List ℕ) (s : Spelling) : Type 0 where
  pub dropped : (r : Rule) (n : ℕ) → read_rule_before rule ≡ records r n → s.number ≡ 0 → DroppedRule r (take s.written s.out)
  pub nothing_to_drop : (r : Rule) (n : ℕ) → read_rule rule ≡ records r n → s.number ≡ 0 → take s.written s.out ≡ rule
  pub unchanged : (s.number ≡ 0 → ⊥) → s.out ≡ out
  pub rest : drop s.written s.out ≡ drop s.written out
  pub fits : s.written ≤ length out
  pub same_length : length s.out ≡ length out
  pub enough : length rule ≤ length out → s.number ≡ 41 → ⊥

-- of every catalogue
pub record CatalogueDropPromised (catalogue : List ℕ) (c : CarriedOver) : Type 0 where
  pub dropped : (l : List Present) → form_before catalogue ≡ rules l → c.number ≡ 0 → DroppedCatalogue l c.catalogue
  pub nothing_to_drop : (l : List Present) → form catalogue ≡ rules l → c.catalogue ≡ catalogue
  -- where no two of the rules made the same label, no two make it now
  pub still_apart : (l : List Present) → form_before catalogue ≡ rules l → AllApart l → c.number ≡ 0 → Apart c.catalogue
  pub same_length : length c.catalogue ≡ length catalogue
  pub unchanged : (c.number ≡ 0 → ⊥) → c.catalogue ≡ catalogue

-- "dropping strays joins the calls after which no label can be made by two rules of a catalogue"
pub data AnyCall (Kind : Type 0) : Type 0 where
  call : Call Kind → AnyCall Kind
  drop_strays : AnyCall Kind

module _ {Kind : Type 0} (asking : Kind → PairAsking) where
  abbrev pub after_any : List ℕ → AnyCall Kind → List ℕ
  after_any catalogue (call c) = after_call asking catalogue c
  after_any catalogue drop_strays = (catalogue_dropping catalogue).catalogue

  abbrev pub after_any_calls : List ℕ → List (AnyCall Kind) → List ℕ
  after_any_calls catalogue [] = catalogue
  after_any_calls catalogue (c ∷ calls) = after_any_calls (after_any catalogue c) calls
