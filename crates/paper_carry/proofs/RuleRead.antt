-- Reading the rule that was written gives it back.
--   rule_reads : a side and what its fields hold, if a rule can say them: read_rule_before (rule_saying held side) ≡ records new (its length)
-- Follows from the laws by which a sheet is read back (`Saying`), behind the rule's mark.
use Prim.Native.Nat.{ℕ, suc, ◌+◌}
use native.Mathlib.Omega.{arith}
use mathlib.Core.Path.{◌≡◌, refl, sym, ap, ◌∙◌}
use mathlib.Core.List.{List, [], ◌++◌, append-nil}
use lib.ListN.{length, get_or, replicate, length-append}
use Rattle.paper.specs.Numbers.{characters, fields}
use Rattle.paper.specs.Pattern.{Held, some_text}
use Rattle.paper.specs.Alphabet.{edition_1}
use Rattle.paper.specs.Equation.{Side}
use Rattle.paper.specs.Sheet.{LE, marked, records, open_fields, read_patterns}
use Rattle.paper.specs.Rule.{Rule, rule_front, read_rule_before}
use Rattle.paper.specs.Saying.{patterns_saying, side_saying}
use Rattle.paper.proofs.base.Tests.{le_ltb}
use Rattle.paper_laws.proofs.sheets.Asked.{GoodSide, GoodFields}
use Rattle.paper_laws.proofs.saying.Saying.{ShortCode, Said, left_there, side_said, side_behind, not_marked, patterns_said}
use Rattle.paper_catalogue.proofs.Local.{rule_whole}
use Rattle.paper_carry.specs.Opened.{rule_saying}

-- the rule that is read
pub record RuleRead (held : List Held) (side : Side) (s : List ℕ) : Type 0 where
  pub new : Rule
  pub reads : read_rule_before s ≡ records new (length s)
  pub its_side : new.side ≡ side
  pub its_held : new.fields.held ≡ held

module _ (held : List Held) (side : Side) (good : GoodFields characters held) (short : (f : ℕ) → ShortCode (get_or held f some_text)) (good_side : GoodSide characters side) where
  abbrev s : List ℕ
  s = rule_saying held side

  abbrev its_side_said : List ℕ
  its_side_said = side_saying edition_1 LE side

  patterns : Said s held (its_side_said ++ []) (read_patterns edition_1 (suc (length s)) s 2 open_fields)
  patterns =
      let every = good.each_field in
      let said = patterns_saying edition_1 0 held in
      let bytes = length-append said its_side_said in
      let rest = sym (append-nil its_side_said) in
      rw every at
      (patterns_said edition_1 held [] (suc (length s)) s 2 0 (replicate fields 0) 0 (its_side_said ++ []) (ap (λ (l : List ℕ). said ++ l) rest) (not_marked edition_1 side [])
      (omega arith) refl (omega arith) (omega arith) good.good short)

  abbrev end : ℕ
  end = patterns.next + (3 + length side)

  abbrev read_new : Rule
  read_new = record { side = side; fields = record { held = held; marks = patterns.marks; above = patterns.last } }

  front_reads : rule_front s ≡ records read_new end
  unfolding rule_front marked
  front_reads = rw (le_ltb (length s) 2 (omega arith), patterns.reads, side_said edition_1 LE s patterns.next side [] patterns.behind good_side)

  reads_to : read_rule_before s ≡ records read_new end
  unfolding read_rule_before
  reads_to =
      let none = left_there s end [] (side_behind edition_1 LE s patterns.next side [] patterns.behind) in
      rw (front_reads, le_ltb end (length s) (omega arith))

  pub rule_reads : RuleRead held side s
  rule_reads =
      record {
        new = read_new;
        reads = reads_to ∙ ap (records read_new) (rule_whole s reads_to).1;
        its_side = refl;
        its_held = refl;
      }
