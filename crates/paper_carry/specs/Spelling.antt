-- Carrying a sheet, a rule and a whole catalogue over (request K5): from any lists of bytes to the number, the place, the bytes written and the
-- buffer afterwards; and what is promised of it.
use Rattle.std.specs.Prelude.{ℕ, ◌+◌, ◌*◌, ◌≤◌, ◌<◌, ◌≡◌, ◌↔◌, false, cond, List, ◌++◌, ltb, length, take, drop}
use Rattle.paper.specs.Lists.{each}
use Rattle.paper.specs.Numbers.{space, fields, rule_fields, pattern_bytes, sheet_side, catalogue_rules}
use Rattle.paper.specs.Equation.{Texts, Same}
use Rattle.paper.specs.Question.{Question, Solution}
use Rattle.paper.specs.Sheet.{fault_number, Records, faulty, records, Reading, refused, asked, read_sheet}
use Rattle.paper.specs.Rule.{Rule, Makes, read_rule, foreign_field}
use Rattle.paper.specs.Saying.{sheet_saying}
use Rattle.paper_catalogue.specs.Catalogue.{Present, Form, no_catalogue, rules, form}
use Rattle.paper_catalogue.specs.Calls.{rule_at, Apart}
use Rattle.paper_carry.specs.Opened.{spelt_open, rule_open, SolutionBefore, MadeBefore, stands_asked, stands_ruled, NoneOpen}

pub record Spelling : Type 0 where
  pub number : ℕ
  pub place : ℕ
  pub written : ℕ
  pub out : List ℕ

abbrev pub spelling_told : ℕ → ℕ → ℕ → List ℕ → Spelling
spelling_told number place written out = record { number = number; place = place; written = written; out = out }

-- 41 for a buffer too short, the number that K8 gives a sheet's buffer
abbrev pub put_into : List ℕ → List ℕ → Spelling
put_into bytes out =
    cond (ltb (length out) (length bytes)) (spelling_told 41 0 0 out) (spelling_told 0 0 (length bytes) (bytes ++ drop (length bytes) out))

-- a sheet: its own refusals, then 41
abbrev pub spelling_of : Reading → List ℕ → Spelling
spelling_of (refused x at) out = spelling_told (fault_number x) at 0 out
spelling_of (asked q) out = put_into (sheet_saying (spelt_open q)) out

unfoldable pub spelling : List ℕ → List ℕ → Spelling
spelling sheet out = spelling_of (read_sheet sheet) out

-- a rule: its own refusals, 31 among them, then 41
abbrev pub rule_spelling_of : Records Rule → List ℕ → Spelling
rule_spelling_of (faulty x at) out = spelling_told (fault_number x) at 0 out
rule_spelling_of (records r next) out = cond (foreign_field r) (spelling_told 31 0 0 out) (put_into (rule_open r) out)

unfoldable pub rule_spelling : List ℕ → List ℕ → Spelling
rule_spelling rule out = rule_spelling_of (read_rule rule) out

-- a whole catalogue, in its own buffer: 34, then 32 if the records no longer fit
pub record CarriedOver : Type 0 where
  pub number : ℕ
  pub catalogue : List ℕ

unfoldable pub rules_open : List Present → List ℕ
rules_open l = each (λ (r : Present). rule_open r.rule) l

abbrev pub carried_of : Form → List ℕ → CarriedOver
carried_of no_catalogue catalogue = record { number = 34; catalogue = catalogue }
carried_of (rules l) catalogue =
    cond (ltb (length catalogue) (length (rules_open l))) (record { number = 32; catalogue = catalogue })
    (record { number = 0; catalogue = rules_open l ++ drop (length (rules_open l)) catalogue })

unfoldable pub carrying_over : List ℕ → CarriedOver
carrying_over catalogue = carried_of (form catalogue) catalogue

-- The most bytes that a good sheet, `ED` and its byte among them, a good rule and a catalogue's rules have.
abbrev pub longest_sheet : ℕ
longest_sheet = 3 + fields * (4 + pattern_bytes) + (3 + sheet_side) + (3 + sheet_side)

abbrev pub longest_rule : ℕ
longest_rule = 2 + rule_fields * (4 + pattern_bytes) + (3 + sheet_side)

abbrev pub longest_rules : ℕ
longest_rules = catalogue_rules * longest_rule

-- The bytes are a sheet, and it asks what the old one asked.
pub record CarriedSheet (q : Question) (bytes : List ℕ) : Type 0 where
  pub new : Question
  pub asks : read_sheet bytes ≡ asked new
  pub same_left : new.left ≡ q.left
  pub same_right : new.right ≡ q.right
  pub same_solutions : (texts : Texts) → SolutionBefore q texts ↔ Solution new texts

-- The bytes are a rule, and it makes the labels that the old one made.
pub record CarriedRule (r : Rule) (bytes : List ℕ) : Type 0 where
  pub new : Rule
  pub reads : read_rule bytes ≡ records new (length bytes)
  pub own_fields : foreign_field new ≡ false
  pub same_side : new.side ≡ r.side
  pub same_labels : (l : List ℕ) → MadeBefore r l ↔ Makes new l

-- The buffer is a catalogue of as many rules, and each makes the labels that it made before.
pub record CarriedCatalogue (l : List Present) (catalogue : List ℕ) : Type 0 where
  pub new : List Present
  pub of_form : form catalogue ≡ rules new
  pub as_many : length new ≡ length l
  pub same_labels : (i : ℕ) → i < length l → (w : List ℕ) → MadeBefore (rule_at l i) w ↔ Makes (rule_at new i) w

-- no two of the rules made labels that are the same
abbrev pub ApartBefore : List Present → Type 0
ApartBefore l = (i j : ℕ) → i < length l → j < length l → (i ≡ j → ⊥)
    → (u w : List ℕ) → Same space u w → MadeBefore (rule_at l i) u → MadeBefore (rule_at l j) w → ⊥

-- What is promised: of every sheet and every buffer. "everything else byte for byte as it was": where there is nothing to add, every byte is.
pub record CarryPromised (sheet out : List ℕ) (s : Spelling) : Type 0 where
  pub carried : (q : Question) → read_sheet sheet ≡ asked q → s.number ≡ 0 → CarriedSheet q (take s.written s.out)
  pub nothing_to_add : (q : Question) → read_sheet sheet ≡ asked q → NoneOpen (stands_asked q) q.held → s.number ≡ 0
      → take s.written s.out ≡ sheet
  pub unchanged : (s.number ≡ 0 → ⊥) → s.out ≡ out
  pub rest : drop s.written s.out ≡ drop s.written out
  pub fits : s.written ≤ length out
  pub same_length : length s.out ≡ length out
  pub enough : longest_sheet ≤ length out → s.number ≡ 41 → ⊥

-- of every rule and every buffer
pub record RulePromised (rule out : List ℕ) (s : Spelling) : Type 0 where
  pub carried : (r : Rule) (n : ℕ) → read_rule rule ≡ records r n → s.number ≡ 0 → CarriedRule r (take s.written s.out)
  pub nothing_to_add : (r : Rule) (n : ℕ) → read_rule rule ≡ records r n → NoneOpen (stands_ruled r) r.fields.held → s.number ≡ 0
      → take s.written s.out ≡ rule
  pub unchanged : (s.number ≡ 0 → ⊥) → s.out ≡ out
  pub rest : drop s.written s.out ≡ drop s.written out
  pub fits : s.written ≤ length out
  pub same_length : length s.out ≡ length out
  pub enough : longest_rule ≤ length out → s.number ≡ 41 → ⊥

-- of every catalogue
pub record CataloguePromised (catalogue : List ℕ) (c : CarriedOver) : Type 0 where
  pub carried : (l : List Present) → form catalogue ≡ rules l → c.number ≡ 0 → CarriedCatalogue l c.catalogue
  -- where no two of the rules made the same label, no two make it now
  pub still_apart : (l : List Present) → form catalogue ≡ rules l → ApartBefore l → c.number ≡ 0 → Apart c.catalogue
  pub same_length : length c.catalogue ≡ length catalogue
  pub unchanged : (c.number ≡ 0 → ⊥) → c.catalogue ≡ catalogue
  pub enough : longest_rules ≤ length catalogue → c.number ≡ 32 → ⊥
