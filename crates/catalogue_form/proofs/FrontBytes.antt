-- The bytes of the rule at the front: what they are by the struct of a rule, and what they say, whichever rules are unfit. Where there are none no rule
-- may stand there, else one stands there that passes its own checks and is not unfit.
-- Follows from the definition of `front_bytes` by the tests that it makes; a rule that is read has bytes (`rule_bounds`).
use Prim.Native.Nat.{ℕ, zero, suc, ◌+◌, ◌<◌}
use native.Mathlib.Omega.{arith}
use mathlib.Core.Path.{◌≡◌, refl, sym, ap, ap₂, ◌∙◌}
use mathlib.Core.Bool.{Bool, true, false, ◌||◌, or-false}
use mathlib.Core.List.{List, []}
use lib.Dec.{leb, ltb}
use lib.ListN.{length}
use Rattle.std.specs.Prelude.{None, Some}
use Rattle.paper.specs.Numbers.{catalogue_rules}
use Rattle.paper.specs.Sheet.{Records, faulty, records}
use Rattle.paper.specs.Rule.{Rule, rule_front}
use Rattle.paper_catalogue.specs.Catalogue.{no_catalogue, all_zero, form_within}
use Rattle.paper.proofs.base.Tests.{by_bool, lt_leb, leb_false}
use Rattle.base_codes.specs.Inner.{padded}
use Rattle.base_question.proofs.Strays.{some_stray}
use Rattle.read_rule.specs.RuleRead.{rule_bodies, rule_strays_coded}
use Rattle.read_rule.specs.declared.Rule as Code
use Rattle.read_rule.proofs.RulePatterns.{front_strays}
use Rattle.read_rule.proofs.RuleStruct.{RuleTold}
use Rattle.catalogue_form.specs.Kept.{unfit_by, unfit_coded, front_bytes}

-- a rule is unfit by what was read of it, where it is
pub unfit_told : (strict : Bool) (s : List ℕ) (r : Code.Rule) (t : RuleTold (rule_bodies s) (rule_front s) r)
    → unfit_coded strict r ≡ unfit_by strict t.rule
unfit_told true s r t =
    ap₂ ◌||◌ t.foreign
    (some_stray r.bodies r.side (padded [])
    ∙ ap (λ (l : List ℕ). ltb 0 (length l)) (ap₂ rule_strays_coded t.bodies_are t.side ∙ front_strays s t.reads))
unfit_told false s r t = or-false r.foreign ∙ t.foreign

module _ (unfit : Rule → Bool) (n : ℕ) (s : List ℕ) where
  module _ (few : n < catalogue_rules) (r : Code.Rule) (t : RuleTold (rule_bodies s) (rule_front s) r) where
    pub front_unfit : unfit t.rule ≡ true → front_bytes unfit n s ≡ None
    front_unfit k = rw (lt_leb catalogue_rules n few, t.reads, k)

    pub front_fit : unfit t.rule ≡ false → front_bytes unfit n s ≡ Some r.bytes
    front_fit k = rw (lt_leb catalogue_rules n few, t.reads, k)

-- a rule of so many bytes stands at the front that is not unfit, and one may stand behind n
pub record Next (unfit : Rule → Bool) (n : ℕ) (s : List ℕ) (bytes : ℕ) : Type 0 where
  pub rule : Rule
  pub few : n < catalogue_rules
  pub reads : rule_front s ≡ records rule bytes
  pub fit : unfit rule ≡ false

module _ (unfit : Rule → Bool) (n : ℕ) (s : List ℕ) where
  -- the bytes of a rule
  module _ (bytes : ℕ) (e : Some bytes ≡ front_bytes unfit n s) where
    next_of : (x : Records Rule) → rule_front s ≡ x → leb catalogue_rules n ≡ false → Next unfit n s bytes
    next_of (faulty x at) f h = let k : Some bytes ≡ None = e ∙ rw (h, f) in cc
    next_of (records r next) f h =
        by_bool (unfit r)
        (λ g. let k : Some bytes ≡ None = e ∙ rw (h, f, g) in cc)
        (λ g.
        let k : Some bytes ≡ Some next = e ∙ rw (h, f, g) in
        let same : next ≡ bytes = cc in
        record { rule = r; few = leb_false catalogue_rules n h; reads = f ∙ ap (records r) same; fit = g })

    pub some_front : Next unfit n s bytes
    some_front = by_bool (leb catalogue_rules n) (λ h. let k : Some bytes ≡ None = e ∙ rw h in cc) (next_of (rule_front s) refl)

  -- no rule, and not zero bytes
  none_of : (left : ℕ) (x : Records Rule) → rule_front s ≡ x → leb catalogue_rules n ≡ false → all_zero s ≡ false → front_bytes unfit n s ≡ None
      → form_within unfit (suc left) s ≡ no_catalogue
  none_of left (faulty x at) e h z none = rw (z, e)
  none_of left (records r next) e h z none =
      by_bool (unfit r)
      (λ f. rw (z, e, f))
      (λ f. let k : Some next ≡ None = sym (rw (h, e, f)) ∙ none in cc)

  pub no_front : (left : ℕ) → left + n ≡ catalogue_rules → all_zero s ≡ false → front_bytes unfit n s ≡ None → form_within unfit left s ≡ no_catalogue
  no_front zero k z none = rw z
  no_front (suc left) k z none = none_of left (rule_front s) refl (lt_leb catalogue_rules n (omega arith)) z none
