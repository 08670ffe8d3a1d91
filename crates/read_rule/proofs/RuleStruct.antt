-- What the answer of reading a rule says of it, and of reading it by itself. Follows from the cases of `rule_of` and `Rule-end`.
use Prim.Native.Nat.{ℕ, ◌≤◌, ◌<◌}
use native.Mathlib.Omega.{arith}
use mathlib.Core.Path.{◌≡◌, refl, sym, ap, ap₂, ◌∙◌, subst}
use mathlib.Core.List.{List, [], ◌∷◌, map}
use lib.Dec.{ltb}
use lib.ListN.{length, get_or}
use Rattle.std.specs.Prelude.{Ok, Err, Some, None}
use Rattle.paper.specs.Numbers.{fields}
use Rattle.paper.specs.Rule.{foreign_field, rule_front, rule_end, read_rule_before, rule_strays, rule_at_stray, read_rule}
use Rattle.paper.specs.Rule as Paper
use Rattle.paper.specs.Sheet.{wrong_mark, Records, faulty, records}
use Rattle.paper.proofs.base.Tests.{by_bool, lt_ltb, le_ltb}
use Rattle.base_codes.specs.Inner.{side_code, padded}
use Rattle.base_places.specs.WorkedOut.{worked_out}
use Rattle.base_question.specs.Bodies.{nowhere, mark_of}
use Rattle.base_question.specs.StraysCoded.{first_of}
use Rattle.base_question.specs.declared.Body.{Body}
use Rattle.base_question.proofs.Strays.{first_is}
use Rattle.base_answers.specs.Faults.{fault_of, as_fault}
use Rattle.base_answers.specs.declared.Fault.TheVariants.{StrayPattern}
use Rattle.base_answers.specs.declared.Refusal.{Refusal}
use Rattle.base_answers.proofs.Same.{same_fault, same_paper}
use Rattle.read_rule.specs.RuleRead.{rule_bodies, rule_of, rule_strays_coded}
use Rattle.read_rule.specs.declared.Rule.{Rule}
use Rattle.read_rule.proofs.RulePatterns.{front_marked, front_strays}

-- the rule that stands there
pub record RuleTold (bodies : List Body) (x : Records Paper.Rule) (r : Rule) : Type 0 where
  pub rule : Paper.Rule
  pub reads : x ≡ records rule r.bytes
  pub foreign : r.foreign ≡ foreign_field rule
  pub side : r.side ≡ padded (side_code rule.side)
  pub fields : r.fields ≡ map worked_out rule.fields.held
  pub bodies_are : r.bodies ≡ bodies

module _ (bodies : List Body) where
  pub rule_fault : (x : Records Paper.Rule) (e : Refusal) → rule_of bodies x ≡ Err e → x ≡ faulty (fault_of e.fault) e.place
  rule_fault (faulty x at) e h =
      let same : record { fault = as_fault x; place = at } ≡ e = cc in
      rw (← same, same_paper x)
  rule_fault (records p next) e h = absurd (cc)

  pub rule_stands : (x : Records Paper.Rule) (r : Rule) → rule_of bodies x ≡ Ok r → RuleTold bodies x r
  rule_stands (faulty x at) r h = absurd (cc)
  rule_stands (records p next) r h =
      let same :
      record {
        bytes = next;
        foreign = foreign_field p;
        side = padded (side_code p.side);
        fields = map worked_out p.fields.held;
        bodies = bodies;
      }
      ≡ r = cc in
      rw (← same) (record { rule = p; reads = refl; foreign = refl; side = refl; fields = refl; bodies_are = refl })

module _ (s : List ℕ) where
  -- a fault of its front
  pub fault_before : (e : Refusal) → rule_of (rule_bodies s) (rule_front s) ≡ Err e → Err e ≡ rule_of (rule_bodies s) (read_rule_before s)
  unfolding read_rule_before
  fault_before e h = rw (rule_fault (rule_bodies s) (rule_front s) e h, same_fault e.fault)

  -- a fault before the check on strays
  pub fault_alone : (e : Refusal) → rule_of (rule_bodies s) (read_rule_before s) ≡ Err e → Err e ≡ rule_of (rule_bodies s) (read_rule s)
  unfolding read_rule
  fault_alone e h = rw (rule_fault (rule_bodies s) (read_rule_before s) e h, same_fault e.fault)

  module _ (r : Rule) (h : rule_of (rule_bodies s) (rule_front s) ≡ Ok r) where
    told : RuleTold (rule_bodies s) (rule_front s) r
    told = rule_stands (rule_bodies s) (rule_front s) r h

    pub left_before : r.bytes < length s → read_rule_before s ≡ faulty wrong_mark r.bytes
    unfolding read_rule_before
    left_before k = rw (told.reads, lt_ltb r.bytes (length s) k)

    ends : length s ≤ r.bytes → read_rule_before s ≡ records told.rule r.bytes
    unfolding read_rule_before
    ends k = rw (told.reads, le_ltb r.bytes (length s) k)

    pub rule_before : length s ≤ r.bytes → Ok r ≡ rule_of (rule_bodies s) (read_rule_before s)
    rule_before k = sym h ∙ ap (rule_of (rule_bodies s)) (told.reads ∙ sym (ends k))

  -- what stands before its end was its front
  end_front : {p : Paper.Rule} {n : ℕ} (x : Records Paper.Rule) → rule_end s x ≡ records p n → x ≡ records p n
  end_front (faulty x at) e = absurd (cc)
  end_front (records q m) e =
      by_bool (ltb m (length s))
      (λ k. let z = rw k at e in absurd (cc))
      (λ k. rw k at e)

  -- the check on strays decides
  module _ (r : Rule) (h : rule_of (rule_bodies s) (read_rule_before s) ≡ Ok r) where
    alone : RuleTold (rule_bodies s) (read_rule_before s) r
    alone = rule_stands (rule_bodies s) (read_rule_before s) r h

    fronts : rule_front s ≡ records alone.rule r.bytes
    unfolding read_rule_before
    fronts = end_front (rule_front s) alone.reads

    strays_here : rule_strays_coded r.bodies r.side ≡ rule_strays alone.rule
    strays_here = ap₂ rule_strays_coded alone.bodies_are alone.side ∙ front_strays s fronts

    checked : read_rule s ≡ rule_at_stray alone.rule r.bytes (rule_strays alone.rule)
    unfolding read_rule
    checked = rw alone.reads

    first_told : (l : List ℕ) (f : ℕ) → rule_strays alone.rule ≡ l → first_of l ≡ Some f
        → (f < fields) × (Err (record { fault = StrayPattern; place = mark_of (get_or r.bodies f nowhere) }) ≡ rule_of (rule_bodies s) (rule_at_stray alone.rule r.bytes l))
    first_told [] f e i = absurd (cc)
    first_told (g ∷ fs) f e i =
        let one : g ≡ f = cc in
        let (known, some) = first_is r.bodies r.side (padded []) g fs (strays_here ∙ e) in
        let same = ap (λ (l : List Body). get_or l g nowhere) alone.bodies_are in
        let begins = front_marked s fronts g known (subst (λ (b : Body). 0 < b.length) same some) in
        let place : mark_of (get_or r.bodies g nowhere) ≡ get_or alone.rule.fields.marks g 0 = omega (arith, begins, ap (λ (b : Body). b.start) same) in
        rw (← one) (known, rw place)

    pub stray_first : (f : ℕ) → first_of (rule_strays_coded r.bodies r.side) ≡ Some f
        → (f < fields) × (Err (record { fault = StrayPattern; place = mark_of (get_or r.bodies f nowhere) }) ≡ rule_of (rule_bodies s) (read_rule s))
    stray_first f e = rw checked (first_told (rule_strays alone.rule) f refl (rw strays_here at e))

    none_told : (l : List ℕ) → first_of l ≡ None → Ok r ≡ rule_of (rule_bodies s) (rule_at_stray alone.rule r.bytes l)
    none_told [] e = sym h ∙ ap (rule_of (rule_bodies s)) alone.reads
    none_told (f ∷ fs) e = absurd (cc)

    pub none_stray : first_of (rule_strays_coded r.bodies r.side) ≡ None → Ok r ≡ rule_of (rule_bodies s) (read_rule s)
    none_stray e = rw checked (none_told (rule_strays alone.rule) (rw strays_here at e))
