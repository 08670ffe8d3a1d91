-- The whole catalogue (request K1): its form in a lent buffer, adding a rule and withdrawing one, each for all lists of bytes. Adding is by any way to
-- ask a pair.
use Rattle.std.specs.Prelude.{ℕ, zero, suc, ◌+◌, Bool, cond, ◌||◌, List, [], ◌∷◌, ◌++◌, leb, ltb, eqb, length, take, drop, replicate}
use Rattle.paper.specs.Lists.{all}
use Rattle.paper.specs.Numbers.{catalogue_rules}
use Rattle.paper.specs.Sheet.{fault_number, Records, faulty, records}
use Rattle.paper.specs.Rule.{Rule, rule_front, rule_strays, read_rule, foreign_field}
use Rattle.paper.specs.Outcome.{room_of, cleared}
use Rattle.paper_catalogue.specs.PairAsking.{PairAnswered, PairAsking, by_search}

-- a rule that stands in the catalogue, and how many bytes its record has
pub record Present : Type 0 where
  pub rule : Rule
  pub bytes : ℕ

-- "a buffer not of this form", or the rules that stand in it
pub data Form : Type 0 where
  no_catalogue : Form
  rules : List Present → Form

abbrev pub rule_behind : Present → Form → Form
rule_behind r no_catalogue = no_catalogue
rule_behind r (rules l) = rules (r ∷ l)

-- "A catalogue holding a rule with one gives 34" (request K13): no rule stands in it that has a stray pattern, or names a field above 3
abbrev pub unfit : Rule → Bool
unfit r = foreign_field r || ltb 0 (length (rule_strays r))

-- a rule passes its own checks, and is not unfit; reading goes on behind it
abbrev pub rule_stands : (Rule → Bool) → Records Rule → (ℕ → Form) → Form
rule_stands unfit (faulty x at) go_on = no_catalogue
rule_stands unfit (records r next) go_on = cond (unfit r) no_catalogue (rule_behind (record { rule = r; bytes = next }) (go_on next))

abbrev pub all_zero : List ℕ → Bool
all_zero s = all (λ (b : ℕ). eqb b 0) s

-- "Records stand one behind the other from the buffer's start, then zero bytes": at most n records
abbrev pub form_within : (Rule → Bool) → ℕ → List ℕ → Form
form_within unfit zero s = cond (all_zero s) (rules []) no_catalogue
form_within unfit (suc n) s =
    let first = rule_stands unfit (rule_front s) (λ (next : ℕ). form_within unfit n (drop next s)) in
    cond (all_zero s) (rules []) first

-- "a catalogue of up to 32 rules in a lent buffer"
unfoldable pub form_by : (Rule → Bool) → List ℕ → Form
form_by unfit catalogue = form_within unfit catalogue_rules catalogue

abbrev pub form : List ℕ → Form
form catalogue = form_by unfit catalogue

-- by the rule before request K13
abbrev pub form_before : List ℕ → Form
form_before catalogue = form_by foreign_field catalogue

-- the bytes that the records of the rules have
abbrev pub used : List Present → ℕ
used [] = 0
used (r ∷ l) = r.bytes + used l

-- what the pairs with the rules present give: each is answered 1, or the number of the first rule that gave something else, and what its pair was
-- answered
pub data Pairs : Type 0 where
  all_answered_1 : Pairs
  not_answered_1 : ℕ → PairAnswered → Pairs

-- the rules from number i on
abbrev pub pairs_by : PairAsking → ℕ → List Present → Rule → ℕ → Pairs
pairs_by a i [] new room = all_answered_1
pairs_by a i (r ∷ l) new room =
    cond (eqb (a.asks r.rule new room).answer 1) (pairs_by a (suc i) l new room)
    (not_answered_1 i (a.asks r.rule new room))

-- request K1's
abbrev pub pairs_from : ℕ → List Present → Rule → ℕ → Pairs
pairs_from i l new room = pairs_by by_search i l new room

-- what adding tells and leaves: "the number of the first rule that gave something else is reported with that answer", and its count
pub record Added : Type 0 where
  pub number : ℕ
  pub count : ℕ
  pub place : ℕ
  pub rule : ℕ
  pub answer : ℕ
  pub catalogue : List ℕ
  pub work : List ℕ

-- and which search gave the pair's answer; 0 where no pair is told
pub record AddedBy : Type 0 where
  pub added : Added
  pub search : ℕ

-- a refusal before any pair is asked: no byte of either buffer changes
abbrev pub not_entered : ℕ → ℕ → List ℕ → List ℕ → Added
not_entered number place catalogue work =
    record { number = number; count = 0; place = place; rule = 0; answer = 0; catalogue = catalogue; work = work }

abbrev pub not_asked : ℕ → ℕ → List ℕ → List ℕ → AddedBy
not_asked number place catalogue work = record { added = not_entered number place catalogue work; search = 0 }

-- the working buffer behind the pairs: all zero once one was asked
abbrev pub work_behind : List Present → List ℕ → List ℕ
work_behind [] work = work
work_behind (r ∷ l) work = cleared work

-- the bytes of the rule put behind the last record
abbrev pub with_record : ℕ → List ℕ → List ℕ → List ℕ
with_record at bytes catalogue = take at catalogue ++ bytes ++ drop (at + length bytes) catalogue

-- "A new rule is entered exactly if its pair with every rule present gives answer 1"; "30 for a pair not answered 1"
abbrev pub entered_if : Pairs → List Present → List ℕ → List ℕ → List ℕ → AddedBy
entered_if all_answered_1 l bytes catalogue work =
    record {
      added = record {
        number = 0;
        count = 0;
        place = 0;
        rule = 0;
        answer = 0;
        catalogue = with_record (used l) bytes catalogue;
        work = work_behind l work;
      };
      search = 0;
    }
entered_if (not_answered_1 i p) l bytes catalogue work =
    record {
      added = record {
        number = 30;
        count = p.count;
        place = 0;
        rule = i;
        answer = p.answer;
        catalogue = catalogue;
        work = work_behind l work;
      };
      search = p.search;
    }

-- "32 if 32 rules stand or the record's bytes don't fit"
abbrev pub is_full : List Present → List ℕ → List ℕ → Bool
is_full l bytes catalogue = leb catalogue_rules (length l) || ltb (length catalogue) (used l + length bytes)

-- "then the rule's own 11 to 17, then 31 for a field above 3, then 32 .., then 30"; 22 is the rule's own too (request K13)
abbrev pub added_rule : PairAsking → Records Rule → List Present → List ℕ → List ℕ → List ℕ → AddedBy
added_rule a (faulty x at) l bytes catalogue work = not_asked (fault_number x) at catalogue work
added_rule a (records r next) l bytes catalogue work =
    cond (foreign_field r) (not_asked 31 0 catalogue work)
    (cond (is_full l bytes catalogue) (not_asked 32 0 catalogue work)
    (entered_if (pairs_by a 0 l r (room_of work)) l bytes catalogue work))

-- "34 for a buffer not of this form"
abbrev pub added_to : PairAsking → Form → List ℕ → List ℕ → List ℕ → AddedBy
added_to a no_catalogue bytes catalogue work = not_asked 34 0 catalogue work
added_to a (rules l) bytes catalogue work = added_rule a (read_rule bytes) l bytes catalogue work

unfoldable pub adding_by : PairAsking → List ℕ → List ℕ → List ℕ → AddedBy
adding_by a catalogue bytes work = added_to a (form catalogue) bytes catalogue work

-- request K1's
unfoldable pub adding : List ℕ → List ℕ → List ℕ → Added
unfolding adding_by
adding catalogue bytes work = (adding_by by_search catalogue bytes work).added

-- what withdrawing tells and leaves
pub record Withdrawn : Type 0 where
  pub number : ℕ
  pub catalogue : List ℕ

-- "withdrawing closes the gap": n bytes from `at` on go, and the freed bytes at the end are zero
abbrev pub without_record : ℕ → ℕ → List ℕ → List ℕ
without_record at n catalogue = take at catalogue ++ drop (at + n) catalogue ++ replicate n 0

-- the rules from the offset `at` on: "33 if no rule has that number"
abbrev pub withdrawn_from : ℕ → List Present → ℕ → List ℕ → Withdrawn
withdrawn_from at [] i catalogue = record { number = 33; catalogue = catalogue }
withdrawn_from at (r ∷ l) zero catalogue = record { number = 0; catalogue = without_record at r.bytes catalogue }
withdrawn_from at (r ∷ l) (suc i) catalogue = withdrawn_from (at + r.bytes) l i catalogue

-- "for a withdrawal 34, then 33"
abbrev pub withdrawn_of : Form → ℕ → List ℕ → Withdrawn
withdrawn_of no_catalogue i catalogue = record { number = 34; catalogue = catalogue }
withdrawn_of (rules l) i catalogue = withdrawn_from 0 l i catalogue

unfoldable pub withdrawing : List ℕ → ℕ → Withdrawn
withdrawing catalogue i = withdrawn_of (form catalogue) i catalogue
