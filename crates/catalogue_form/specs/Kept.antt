-- What reading a catalogue of its form hands on: how many rules stand, how many bytes their records have, and where each begins.
use Rattle.std.specs.Prelude.{ℕ, suc, ◌≡◌, Bool, true, false, cond, ◌&&◌, ◌||◌, List, map, leb, length, take, replicate, Option, None, Some, Result, is_some}
use Rattle.paper.specs.Lists.{upto}
use Rattle.paper.specs.Numbers.{catalogue_rules}
use Rattle.paper.specs.Sheet.{Records, faulty, records}
use Rattle.paper.specs.Rule.{Rule, rule_front, foreign_field}
use Rattle.paper_catalogue.specs.Catalogue.{Present, Form, no_catalogue, rules, unfit, form_by, used}
use Rattle.base_question.specs.StraysCoded.{first_of}
use Rattle.base_answers.specs.declared.Refusal.{Refusal}
use Rattle.read_rule.specs.RuleRead.{rule_bodies, rule_of, rule_strays_coded}
use Rattle.read_rule.specs.declared.Rule as Code
use Rattle.catalogue_form.specs.declared.Kept.{Kept}

-- where the rule with the number i begins, and, with their number, where the last one ends; 0 behind that
abbrev pub begin_of : List Present → ℕ → ℕ
begin_of l i = cond (leb i (length l)) (used (take i l)) 0

-- of 32 rules, and the end of the last
unfoldable pub begins_of : List Present → List ℕ
begins_of l = map (begin_of l) (upto (suc catalogue_rules))

unfoldable pub no_begins : List ℕ
no_begins = replicate (suc catalogue_rules) 0

abbrev pub kept_of : Form → Option Kept
kept_of no_catalogue = None
kept_of (rules l) = Some (record { rules = length l; used = used l; begins = begins_of l })

-- which rules may not stand: by the rule of today, and by the one before request K13
abbrev pub unfit_by : Bool → Rule → Bool
unfit_by true = unfit
unfit_by false = foreign_field

-- by what was read of the rule: whether it names a field above 3, and whether a pattern is a stray
abbrev pub unfit_coded : Bool → Code.Rule → Bool
unfit_coded strict r = r.foreign || (strict && is_some (first_of (rule_strays_coded r.bodies r.side)))

-- how many bytes the rule at the front has, if it passes its own checks, is not unfit, and one may stand behind so many
abbrev pub front_length : (Rule → Bool) → Records Rule → Option ℕ
front_length unfit (faulty x at) = None
front_length unfit (records r next) = cond (unfit r) None (Some next)

abbrev pub front_bytes : (Rule → Bool) → ℕ → List ℕ → Option ℕ
front_bytes unfit n s = cond (leb catalogue_rules n) None (front_length unfit (rule_front s))

-- what reading the rule at the front of the bytes hands on
abbrev pub rule_there : List ℕ → Result Code.Rule Refusal
rule_there s = rule_of (rule_bodies s) (rule_front s)

-- what was read is a catalogue of its form, whichever rules are unfit
pub record OfFormBy (unfit : Rule → Bool) (catalogue : List ℕ) (kept : Kept) : Type 0 where
  pub rules_present : List Present
  pub of_form : form_by unfit catalogue ≡ rules rules_present
  pub counted : kept.rules ≡ length rules_present
  pub its_used : kept.used ≡ used rules_present
  pub its_begins : kept.begins ≡ begins_of rules_present

abbrev pub OfForm : List ℕ → Kept → Type 0
OfForm catalogue kept = OfFormBy unfit catalogue kept

-- by the rule before request K13
abbrev pub OfFormBefore : List ℕ → Kept → Type 0
OfFormBefore catalogue kept = OfFormBy foreign_field catalogue kept
