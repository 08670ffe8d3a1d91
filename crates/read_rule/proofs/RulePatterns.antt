-- The patterns of a rule stand where reading it says, and its strays by the codes are the paper's.
--   front_stands : rule_front s ≡ records r n → AllStand edition_1 s (rule_bodies s) r.fields.held
--   front_marked : and behind its record's mark each pattern begins
--   front_strays : rule_strays_coded (rule_bodies s) (padded (side_code r.side)) ≡ rule_strays r
-- Follows from the definition of `rule_front` by its cases: the fields of the rule are those of the records, and its side is good.
use Prim.Native.Nat.{ℕ}
use native.Mathlib.Omega.{arith}
use mathlib.Core.Path.{◌≡◌, refl, ap, ◌∙◌, subst}
use mathlib.Core.List.Memᴰ
use mathlib.Core.List.{List, [], append-nil}
use lib.Dec.{ltb}
use lib.ListN.{length}
use Rattle.paper.specs.Numbers.{characters}
use Rattle.paper.specs.Alphabet.{edition_1}
use Rattle.paper.specs.Equation.{Side}
use Rattle.paper.specs.Rule.{Rule, with_side, side_read, rule_front, rule_strays}
use Rattle.paper.specs.Sheet.{Checked, fault, read, LE, RU, marked, marked_side, Records, faulty, records, strays_of}
use Rattle.paper.specs.Sheet as Sheet
use Rattle.paper.proofs.base.Tests.{cond_by}
use Rattle.paper_laws.proofs.sheets.Asked.{GoodSide, Found, marked_good}
use Rattle.base_codes.specs.Inner.{side_code, padded}
use Rattle.base_question.proofs.Strays.{strays_are}
use Rattle.read_fields.proofs.PatternsStanding.{stands_held, AllStand, AllMarked, patterns_stand, patterns_marked}
use Rattle.read_rule.specs.RuleRead.{rule_bodies, rule_strays_coded}
use Rattle.read_rule.proofs.RuleParts.{patterns_of}

no_side : GoodSide characters []
no_side = record { tokens = λ t d. absurd (Memᴰ.not-nil d); short = omega arith }

module _ (s : List ℕ) where
  -- the records of the rule that was read, and its side
  record Parts (r : Rule) : Type 0 where
    next : ℕ
    patterns : patterns_of s ≡ records r.fields next
    side : GoodSide characters r.side

  abbrev Patterned : Records Rule → Type 0
  Patterned (faulty x at) = Unit {0}
  Patterned (records r n) = Parts r

  with_side_patterned : (fs : Sheet.Fields) (at : ℕ) → patterns_of s ≡ records fs at → (x : Checked Side) → Found (GoodSide characters) x → Patterned (with_side fs x)
  with_side_patterned fs at e (fault x place) g = tt
  with_side_patterned fs at e (read side next) g = record { next = at; patterns = e; side = g }

  side_patterned : (x : Records Sheet.Fields) → patterns_of s ≡ x → Patterned (side_read s x)
  side_patterned (faulty x at) e = tt
  side_patterned (records fs at) e = with_side_patterned fs at e (marked_side edition_1 LE s at) (marked_good edition_1 LE s at)

  front_patterned : Patterned (rule_front s)
  unfolding rule_front
  front_patterned =
      cond_by Patterned (ltb (length s) 2) (λ _. tt)
      (λ _. cond_by Patterned (marked RU s 0) (λ _. side_patterned (patterns_of s) refl) (λ _. tt))

  module _ {r : Rule} {n : ℕ} (e : rule_front s ≡ records r n) where
    parts : Parts r
    parts = subst Patterned e front_patterned

    pub front_stands : AllStand edition_1 s (rule_bodies s) r.fields.held
    unfolding rule_bodies
    front_stands = patterns_stand edition_1 s 2 parts.patterns

    pub front_marked : AllMarked (rule_bodies s) r.fields.marks
    unfolding rule_bodies
    front_marked = patterns_marked edition_1 s 2 parts.patterns

    pub front_strays : rule_strays_coded (rule_bodies s) (padded (side_code r.side)) ≡ rule_strays r
    front_strays =
        strays_are characters (omega arith) r.side [] parts.side no_side (rule_bodies s) r.fields.held (λ f k. stands_held (front_stands f k))
        ∙ ap (strays_of r.fields.held) (append-nil r.side)
