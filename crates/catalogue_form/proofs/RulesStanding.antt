-- The walk of a catalogue of its form: the rule with the number i stands where it begins.
--   begins_are                     : the i-th begin is where the records before it end
--   standing_reads, standing_fit   : there its record stands, and it is not unfit, whichever rules are
--   standing_good, good_before     : it is a good rule, by the form of today and by that before request K13
--   standing_side, -fields, -bytes : reading there gives its side, what is worked out of its fields and how many bytes it has
--   standing_bodies, -bodies-are   : and where its patterns stand
--   next_begin, record_within      : its record ends where the next one begins, within the catalogue
-- Follows from where the rules of a catalogue stand (`at_offset`).
use Prim.Native.Nat.{ℕ, zero, suc, ◌+◌, ◌≤◌, ◌<◌}
use native.Mathlib.Omega.{arith}
use mathlib.Core.Path.{◌≡◌, refl, sym, ap, ◌∙◌, subst}
use mathlib.Core.Bool.{Bool, false}
use mathlib.Core.List.{List, [], ◌∷◌, map}
use lib.ListN.{length, get_or, drop, length-drop}
use Rattle.paper.specs.Numbers.{catalogue_rules}
use Rattle.paper.specs.Alphabet.{edition_1}
use Rattle.paper.specs.Sheet.{records}
use Rattle.paper.specs.Rule.{Rule, rule_front}
use Rattle.paper_catalogue.specs.Catalogue.{Present}
use Rattle.paper_catalogue.specs.Calls.{present_at, rule_at}
use Rattle.paper.proofs.base.Tests.{le_leb}
use Rattle.paper_catalogue.proofs.Local.{rule_bounds}
use Rattle.paper_catalogue.proofs.Form.{LaidOut, offset_of, offset_next, at_offset, stands_by, fit_own}
use Rattle.paper_catalogue.proofs.GoodRule.{GoodRule, rule_good}
use Rattle.base_codes.specs.Inner.{side_code, padded}
use Rattle.base_places.specs.WorkedOut.{worked_out}
use Rattle.base_question.specs.declared.Body.{Body}
use Rattle.read_fields.proofs.PatternsStanding.{AllStand}
use Rattle.read_rule.specs.RuleRead.{rule_bodies, rule_of}
use Rattle.read_rule.specs.declared.Rule as Code
use Rattle.read_rule.proofs.RulePatterns.{front_stands}
use Rattle.read_rule.proofs.RuleStruct.{RuleTold, rule_stands}
use Rattle.std.specs.Prelude.{Ok}
use Rattle.catalogue_form.specs.Kept.{OfFormBy, OfForm, OfFormBefore, rule_there}
use Rattle.catalogue_form.specs.declared.Kept.{Kept}
use Rattle.catalogue_form.proofs.OneMore.{begins_at}

-- the rule with the number i in front
pub in_front : (l : List Present) (i : ℕ) → i < length l → drop i l ≡ present_at l i ∷ drop (suc i) l
in_front [] i h = absurd (omega arith)
in_front (r ∷ l) zero h = refl
in_front (r ∷ l) (suc i) h = in_front l i (omega arith)

-- where the rule with a number begins, by what was read
abbrev pub begin_in : Kept → ℕ → ℕ
begin_in kept i = get_or kept.begins i 0

module _ {unfit : Rule → Bool} {catalogue : List ℕ} {kept : Kept} (x : OfFormBy unfit catalogue kept) where
  abbrev l : List Present
  l = x.rules_present

  laid_out : LaidOut unfit catalogue l × (length l ≤ catalogue_rules)
  laid_out = stands_by unfit catalogue x.of_form

  -- no more than 32
  pub rules_few : kept.rules ≤ 32
  rules_few = omega (arith, x.counted, laid_out.1)

  pub begins_are : (i : ℕ) → i ≤ length l → begin_in kept i ≡ offset_of l i
  begins_are i h =
      ap (λ (b : List ℕ). get_or b i 0) x.its_begins
      ∙ begins_at l i (omega (arith, laid_out.1))
      ∙ rw (le_leb i (length l) h)

  module _ (i : ℕ) (h : i < length l) where
    abbrev its_begin : ℕ
    its_begin = begin_in kept i

    pub standing_reads : rule_front (drop its_begin catalogue) ≡ records (rule_at l i) (present_at l i).bytes
    standing_reads = rw (begins_are i (omega arith)) (at_offset laid_out.0 i h).0

    pub standing_fit : unfit (rule_at l i) ≡ false
    standing_fit = (at_offset laid_out.0 i h).1

    -- what is read there
    pub standing_there : rule_there (drop its_begin catalogue) ≡ rule_of (rule_bodies (drop its_begin catalogue)) (records (rule_at l i) (present_at l i).bytes)
    standing_there = ap (rule_of (rule_bodies (drop its_begin catalogue))) standing_reads

    module _ (present : Code.Rule) (p : Ok present ≡ rule_there (drop its_begin catalogue)) where
      standing_told : RuleTold (rule_bodies (drop its_begin catalogue)) (rule_front (drop its_begin catalogue)) present
      standing_told = rule_stands (rule_bodies (drop its_begin catalogue)) (rule_front (drop its_begin catalogue)) present (sym p)

      its_rule : records standing_told.rule present.bytes ≡ records (rule_at l i) (present_at l i).bytes
      its_rule = sym standing_told.reads ∙ standing_reads

      same_rule : standing_told.rule ≡ rule_at l i
      same_rule = let e = its_rule in cc

      pub standing_side : present.side ≡ padded (side_code (rule_at l i).side)
      standing_side = standing_told.side ∙ ap (λ (r : Rule). padded (side_code r.side)) same_rule

      pub standing_fields : present.fields ≡ map worked_out (rule_at l i).fields.held
      standing_fields = standing_told.fields ∙ ap (λ (r : Rule). map worked_out r.fields.held) same_rule

      pub standing_bytes : present.bytes ≡ (present_at l i).bytes
      standing_bytes = let e = its_rule in cc

      pub standing_bodies_are : present.bodies ≡ rule_bodies (drop its_begin catalogue)
      standing_bodies_are = standing_told.bodies_are

      pub standing_bodies : AllStand edition_1 (drop its_begin catalogue) present.bodies (rule_at l i).fields.held
      standing_bodies =
          subst (λ (b : List Body). AllStand edition_1 (drop its_begin catalogue) b (rule_at l i).fields.held) (sym standing_bodies_are)
          (front_stands (drop its_begin catalogue) standing_reads)

    -- where the next one begins
    pub next_begin : begin_in kept (i + 1) ≡ its_begin + (present_at l i).bytes
    next_begin = omega (arith, begins_are i (omega arith), begins_are (suc i) h, offset_next l i h, ap (begin_in kept) next)
      where
        next : i + 1 ≡ suc i
        next = omega arith

    pub record_within : its_begin + (present_at l i).bytes ≤ length catalogue
    record_within =
        let (low, high) = rule_bounds (drop its_begin catalogue) standing_reads in
        omega (arith, begins_are i (omega arith), length-drop its_begin catalogue, low, high)

module _ {catalogue : List ℕ} {kept : Kept} where
  pub standing_good : (x : OfForm catalogue kept) (i : ℕ) → i < length x.rules_present → GoodRule (rule_at x.rules_present i)
  standing_good x i h =
      let r = rule_at x.rules_present i in rule_good (drop (begin_in kept i) catalogue) (standing_reads x i h) (fit_own r (standing_fit x i h))

  pub good_before : (x : OfFormBefore catalogue kept) (i : ℕ) → i < length x.rules_present → GoodRule (rule_at x.rules_present i)
  good_before x i h = rule_good (drop (begin_in kept i) catalogue) (standing_reads x i h) (standing_fit x i h)
