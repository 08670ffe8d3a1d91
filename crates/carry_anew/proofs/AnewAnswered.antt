-- From what was read of a sheet or a rule, and what was put of it, to the answer.
--   no_room, with_room : bytes put into a buffer, if they fit
--   sheet_at_fault, sheet_put             : what is told of a sheet is what writing it anew is
--   rule_at_fault, rule_foreign, rule_put : of a rule
-- Follows from the definitions by the tests that they make, and from what is put (`PutWhole` of `carry_put`).
use Prim.Native.Nat.{ℕ, ◌≤◌, ◌<◌}
use native.Mathlib.Omega.{arith}
use mathlib.Core.Path.{◌≡◌, sym, ap, ◌∙◌, subst}
use mathlib.Core.Bool.{true, false}
use mathlib.Core.List.{List, [], ◌++◌}
use lib.ListN.{length}
use lib.Seq.{take_all}
use Rattle.paper.specs.Alphabet.{Edition, edition_1, edition_of}
use Rattle.paper.specs.Sheet.{Records, records, Reading}
use Rattle.paper.specs.Rule.{Rule, foreign_field}
use Rattle.paper.specs.Saying.{sheet_saying}
use Rattle.paper.proofs.base.Tests.{lt_ltb, le_ltb}
use Rattle.paper_catalogue.proofs.Local.{rule_whole}
use Rattle.paper_catalogue.proofs.GoodRule.{before_good}
use Rattle.paper_carry.specs.Opened.{question_changed}
use Rattle.paper_carry.specs.Spelling.{Spelling, put_into}
use Rattle.paper_carry.proofs.SaidBack.{rule_said_back}
use Rattle.base_put.specs.Counted.{last_place, Counted}
use Rattle.base_put.proofs.Counting.{counted_length, counted_in_front, counted_outside}
use Rattle.std.specs.Prelude.{Ok, Err}
use Rattle.base_answers.specs.declared.Refusal.{Refusal}
use Rattle.base_codes.specs.Inner.{padded}
use Rattle.base_editions.specs.Editions.{paper_edition}
use Rattle.base_editions.proofs.Same.{same_edition}
use Rattle.base_question.specs.Standings.{standing_times}
use Rattle.base_question.specs.declared.Body.{Body}
use Rattle.base_question.specs.declared.Question.{Question}
use Rattle.read_fields.proofs.PatternsStanding.{AllStand}
use Rattle.read_sheet.specs.declared.Sheet.{Sheet}
use Rattle.read_sheet.proofs.SheetStruct.{reading_asks, reading_refused}
use Rattle.read_rule.specs.RuleRead.{rule_bodies}
use Rattle.read_rule.specs.declared.Rule as Read
use Rattle.read_rule.proofs.RuleStruct.{RuleTold, rule_fault, rule_stands}
use Rattle.read_rule.proofs.RulePatterns.{front_stands}
use Rattle.carry_records.specs.Changing.{how_changed}
use Rattle.carry_records.specs.declared.Change.{Change}
use Rattle.carry_put.specs.Putting.{records_from, put_whole, rule_anew}
use Rattle.carry_put.proofs.PutWhole.{have_bytes, sheet_whole, sheet_short, rule_short}
use Rattle.carry_put.proofs.PutWhole as Put
use Rattle.carry_anew.specs.Anew.{told_spelt, sheet_rewritten, SheetRead, rule_rewritten, RuleRead}
use Rattle.carry_anew.specs.declared.RewriteError.TheVariants.{Refused, ForeignField, TooShort}

-- Bytes counted into no part of the buffer, and then put.
module _ (l out : List ℕ) (short : length l ≤ last_place) where
  pub no_room : {e : List ℕ} {n : ℕ} → Counted [] e 0 n l → length (e ++ out) < n → told_spelt (Err TooShort) (e ++ out) ≡ put_into l out
  no_room {e = e} p h =
      let same : e ++ out ≡ out = ap (λ (d : List ℕ). d ++ out) (counted_outside p) in
      rw (same, lt_ltb (length out) (length l) (omega (arith, ap length same, counted_length p short)))

  pub with_room : {e after : List ℕ} {n m : ℕ} → Counted [] e 0 n l → n ≤ length (e ++ out) → Counted (e ++ out) after 0 m l
      → told_spelt (Ok m) after ≡ put_into l out
  with_room {e = e} {after = after} {m = m} p h w =
      let same : e ++ out ≡ out = ap (λ (d : List ℕ). d ++ out) (counted_outside p) in
      let room : length l ≤ length out = omega (arith, ap length same, counted_length p short) in
      let put : Counted out after 0 m l = subst (λ (d : List ℕ). Counted d after 0 m l) same w in
      rw (le_ltb (length out) (length l) room, counted_length put short, counted_in_front put short room)

-- Sheets.
pub sheet_at_fault : (c : Change) (s out : List ℕ) (x : Reading) (r : Refusal) → SheetRead c s x (Err r)
    → told_spelt (Err (Refused r)) out ≡ sheet_rewritten c x out
sheet_at_fault c s out x r h = rw (reading_refused s x r (sym h.is))

module _ (c : Change) (s out : List ℕ) (x : Reading) (read : Sheet) (h : SheetRead c s x (Ok read)) where
  -- what is put of it
  pub sheet_put : (from : ℕ) → from ≡ records_from (paper_edition read.edition)
      → (counts : List ℕ) → counts ≡ standing_times read.question.left read.question.right → (t : Spelling)
      → (length (put_whole c s from read.question.bodies counts) ≤ last_place → t ≡ put_into (put_whole c s from read.question.bodies counts) out)
      → t ≡ sheet_rewritten c x out
  sheet_put from f counts k t put =
      let a = reading_asks s x read (sym h.is) in
      let q = a.question in
      let asks = h.before q a.good in
      let i = h.in_edition q a.good in
      let its : from ≡ records_from (edition_of q.alphabet) =
      f ∙ ap (λ (e : Edition). records_from e) (ap paper_edition a.edition ∙ same_edition (edition_of q.alphabet)) in
      let whole : put_whole c s from read.question.bodies counts ≡ sheet_saying (question_changed (how_changed c) q) =
      ap (λ (n : ℕ). put_whole c s n read.question.bodies counts) its
      ∙ sheet_whole s q asks c i read.question.left read.question.right (ap (λ (y : Question). y.left) a.is) (ap (λ (y : Question). y.right) a.is)
      read.question.bodies (ap (λ (y : Question). y.bodies) a.is) counts k in
      put (omega (arith, ap length whole, sheet_short s q asks c i))
      ∙ ap (λ (l : List ℕ). put_into l out) whole ∙ ap (λ (y : Reading). sheet_rewritten c y out) (sym a.good)

-- Rules.
pub rule_at_fault : (c : Change) (s out : List ℕ) (x : Records Rule) (r : Refusal) → RuleRead c s x (Err r)
    → told_spelt (Err (Refused r)) out ≡ rule_rewritten c x out
rule_at_fault c s out x r h = rw (rule_fault (rule_bodies s) x r (sym h.is))

module _ (c : Change) (s out : List ℕ) (x : Records Rule) (read : Read.Rule) (h : RuleRead c s x (Ok read)) where
  told : RuleTold (rule_bodies s) x read
  told = rule_stands (rule_bodies s) x read (sym h.is)

  pub rule_foreign : read.foreign ≡ true → told_spelt (Err ForeignField) out ≡ rule_rewritten c x out
  rule_foreign f = rw (told.reads, sym told.foreign ∙ f)

  own_put : (r : Rule) (n : ℕ) → foreign_field r ≡ false → put_into (rule_anew c r) out ≡ rule_rewritten c (records r n) out
  own_put r n own = rw own

  pub rule_put : read.foreign ≡ false → (counts : List ℕ) → counts ≡ standing_times read.side (padded []) → (t : Spelling)
      → (length (put_whole c s 2 read.bodies counts) ≤ last_place → t ≡ put_into (put_whole c s 2 read.bodies counts) out)
      → t ≡ rule_rewritten c x out
  rule_put f counts k t put =
      let r = told.rule in
      let own : foreign_field r ≡ false = sym told.foreign ∙ f in
      let reads = h.before r read.bytes told.reads in
      let (front, all) = rule_whole s reads in
      let good = before_good s reads own in
      let stand = subst (λ (b : List Body). AllStand edition_1 s b r.fields.held) (sym told.bodies_are) (front_stands s front) in
      let whole : put_whole c s 2 read.bodies counts ≡ rule_anew c r =
      Put.rule_whole r good c h.in_edition s (rule_said_back s front ∙ take_all read.bytes s (omega (arith, all))) read.side told.side read.bodies
      (have_bytes edition_1 s r.fields.held read.bodies good.held.each_field stand) counts k in
      put (omega (arith, ap length whole, rule_short r good c h.in_edition))
      ∙ ap (λ (l : List ℕ). put_into l out) whole ∙ own_put r read.bytes own ∙ ap (λ (y : Records Rule). rule_rewritten c y out) (sym told.reads)
