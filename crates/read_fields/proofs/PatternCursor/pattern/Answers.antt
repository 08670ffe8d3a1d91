-- `PatternCursor::pattern` meets its contract: each way out is the case of the definition that the checks on the way leave.
-- Assumes nothing.
use Prim.Native.Nat.{ℕ, ◌+◌, ◌-◌, ◌≤◌, ◌<◌}
use native.Mathlib.Nat.{add_assoc, sub-zero}
use native.Mathlib.Numerals.{add-one}
use native.Mathlib.Omega.{arith}
use mathlib.Core.Path.{◌≡◌, refl, sym, ap, ◌∙◌}
use mathlib.Core.Bool.{Bool, false, ◌||◌}
use mathlib.Core.List.{List}
use borrow.Author.Tests.{le-ltb}
use lib.Dec.{leb, ltb, eqb}
use lib.ListN.{length, take, drop, length-drop, length-map}
use lib.Seq.{length-take-le}
use Rattle.paper.specs.Numbers.{fields, pattern_bytes}
use Rattle.paper.specs.Alphabet.{Edition, code, codes}
use Rattle.paper.specs.Pattern.{Pattern}
use Rattle.paper.specs.Written.{Judged, judge, judged}
use Rattle.base_answers.specs.Faults.{fault_of}
use Rattle.base_answers.specs.declared.Refusal.{Refusal}
use Rattle.paper.specs.Sheet.{Checked, FieldPattern, read, fault, body, byte_at, pattern_judged, pattern_record}
use Rattle.paper.proofs.base.Tests.{or_left_false, or_right_false, leb_false, ltb_false}
use Rattle.base_editions.specs.Editions.{paper_edition}
use Rattle.read_codes.proofs.Laying.{codes_front}
use Rattle.read_pattern.specs.Worked.{worked_of}
use Rattle.read_fields.proofs.Verdicts.{Refused, told_not_one, told_too_many, told_refused, told_within, told_good}
use Rattle.read_fields.proofs.PatternCursor.pattern.Goals.{After-tables}
use Rattle.read_fields.proofs.PatternCursor.pattern.Goals as goal

-- the bounds that the tests on the length and on the field give
length-known : (n : ℕ) {b : Bool} → b ≡ (eqb n 0 || ltb pattern_bytes n) → b ≡ false → n ≤ pattern_bytes
length-known n h e = ltb_false pattern_bytes n (or_right_false (eqb n 0) (ltb pattern_bytes n) (sym h ∙ e))

pub slice_bounds-tables-end : goal.slice_bounds-tables-end
slice_bounds-tables-end c =
    omega (arith, length-known (byte_at c.args.s.now (c.args.self.at + 3)) c.wrong_length.ensures c.if-wrong_length.false)

field-known : (f least : ℕ) {b : Bool} → b ≡ (leb fields f || ltb f least) → b ≡ false → f < fields
field-known f least h e = leb_false fields f (or_left_false (leb fields f) (ltb f least) (sym h ∙ e))

-- the body, whose bytes are all there, and what it is judged
abbrev its-body : After-tables → List ℕ
its-body c =
    let a = c.args in
    body a.s.now (a.self.at + 4) (byte_at a.s.now (a.self.at + 3))

there : (c : After-tables) →
    let a = c.args in
    length (its-body c) ≡ byte_at a.s.now (a.self.at + 3)
there c =
    let a = c.args in
    let n = byte_at a.s.now (a.self.at + 3) in
    length-take-le n (drop (a.self.at + 4) a.s.now) (omega (arith, length-drop (a.self.at + 4) a.s.now, c.if-left-len.false))

-- its codes
abbrev its-edition : After-tables → Edition
its-edition c = paper_edition c.args.edition

abbrev its-codes : After-tables → List ℕ
its-codes c = codes (its-edition c) (its-body c)

abbrev judgement : After-tables → Judged
judgement c = judge (its-codes c)

-- how many there are
coded : (c : After-tables) →
    let a = c.args in
    length (its-codes c) ≡ byte_at a.s.now (a.self.at + 3)
coded c = length-map (its-body c) (code (its-edition c)) ∙ there c

-- the checks before the pattern are passed
past-length : (c : After-tables) →
    let a = c.args in
    pattern_record (paper_edition a.edition) a.s.now a.self.at a.self.above
    ≡ pattern_judged (judgement c) (a.self.at + 4) (byte_at a.s.now (a.self.at + 2)) (a.self.at + (4 + byte_at a.s.now (a.self.at + 3)))
unfolding pattern_record
past-length c =
    simp (
      le-ltb _ _ c.if-left-lt4.false,
      ← c.wrong_field.ensures,
      c.if-wrong_field.false,
      ← c.wrong_length.ensures,
      c.if-wrong_length.false,
      le-ltb _ _ c.if-left-len.false,
    )

-- its codes are what was lent to the pattern reader
laid : (c : After-tables) → let a = c.args in take (byte_at a.s.now (a.self.at + 3)) c.codes_of-codes.result ≡ its-codes c
laid c =
    let a = c.args in
    let n = byte_at a.s.now (a.self.at + 3) in
    let part : (a.self.at + 4 + n) - (a.self.at + 4) ≡ n = omega arith in
    ap (take n) (rw part at c.codes_of-codes.ensures)
    ∙ codes_front (its-edition c) (its-body c) pattern_bytes n (there c) (length-known n c.wrong_length.ensures c.if-wrong_length.false)

worked : (c : After-tables) → c.tables.result ≡ worked_of (judgement c)
worked c = rw sub-zero at c.tables.ensures ∙ ap (λ (l : List ℕ). worked_of (judge l)) (laid c)

pub overflow_add-result-in-Err : goal.overflow_add-result-in-Err
overflow_add-result-in-Err c =
    let e = (goal.at.overflow_add-result-in-Err c).After-tables in
    omega (arith, told_within (its-codes e) c.in-Err.x (sym (worked e) ∙ c.in-Err.is), coded e)

-- bytes that are refused are at fault
faulty : {y : Checked FieldPattern} {j : Judged} (x : Refusal) (start f next : ℕ)
    → y ≡ pattern_judged j start f next → Refused x j → y ≡ fault (fault_of x.fault) (start + x.place)
faulty x start f next e (told_not_one h k) = rw (e, h, k)
faulty x start f next e (told_too_many h k) = rw (e, h, k)

pub returns-in-Err : goal.returns-in-Err
returns-in-Err c =
    let e = (goal.at.returns-in-Err c).After-tables in
    faulty c.in-Err.x _ _ _ (past-length e) (told_refused c.in-Err.x (judgement e) (sym (worked e) ∙ c.in-Err.is))

-- a good pattern is read, and reading goes on behind it
reads-good : (c : After-tables) (p : Pattern) → judgement c ≡ judged p →
    let a = c.args in
    pattern_record (paper_edition a.edition) a.s.now a.self.at a.self.above
    ≡ read (record { field = byte_at a.s.now (a.self.at + 2); its = p }) (a.self.at + 4 + byte_at a.s.now (a.self.at + 3))
reads-good c p e = rw (past-length c, e) (simp (← add_assoc))

pub returns-in-Ok : goal.returns-in-Ok
returns-in-Ok c =
    let w = (goal.at.returns-in-Ok c).After-tables in
    let good = told_good c.in-Ok.tables (judgement w) (sym (worked w) ∙ c.in-Ok.is) in
    record {
      its = good.0;
      reads = reads-good w good.0 good.1.0;
      works = good.1.1;
      stands = refl;
      field = refl;
      ends = simp (← add_assoc);
      known = field-known _ c.args.self.above c.wrong_field.ensures c.if-wrong_field.false;
      rises = simp add-one;
      moves = omega arith;
      goes_on = omega arith;
    }
