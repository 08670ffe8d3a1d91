-- `pattern` meets its contract: each way out is the case of the definition that the checks on the way leave (`RecordChecks`).
use Prim.Native.Nat.{ℕ}
use native.Mathlib.Nat.{sub-zero}
use native.Mathlib.Omega.{arith}
use mathlib.Core.Path.{◌≡◌, refl, sym, ap, ◌∙◌}
use mathlib.Core.List.{List}
use lib.ListN.{length, take, length-map}
use lib.Seq.{length-take-le}
use Rattle.paper.specs.Alphabet.{Edition, code, codes}
use Rattle.paper.specs.Numbers.{pattern_bytes}
use Rattle.paper.specs.Written.{judge}
use Rattle.base_editions.specs.Editions.{paper_edition}
use Rattle.read_codes.proofs.Laying.{codes_front}
use Rattle.read_pattern.specs.Worked.{worked_of}
use Rattle.read_fields.proofs.Verdicts.{told_refused, told_within, told_good}
use Rattle.write_records.proofs.RecordChecks.{field_refused, length_refused, cut_refused, judged_refused, pattern_put}
use Rattle.write_records.proofs.pattern.Goals.{After-tables}
use Rattle.write_records.proofs.pattern.Goals as goal

pub returns-then-f-ge-SHEET_FIELDS : goal.returns-then-f-ge-SHEET_FIELDS
returns-then-f-ge-SHEET_FIELDS c =
    let a = c.args in
    field_refused (paper_edition a.edition) a.f a.n a.patterns.now _ c.if-f-ge-SHEET_FIELDS.true c.refuse.ensures

pub returns-then-n-gt-PATTERN_BYTES : goal.returns-then-n-gt-PATTERN_BYTES
returns-then-n-gt-PATTERN_BYTES c =
    let a = c.args in
    length_refused (paper_edition a.edition) a.f a.n a.patterns.now _ c.if-f-ge-SHEET_FIELDS.false c.if-n-gt-PATTERN_BYTES.true c.refuse-then-n-gt-PATTERN_BYTES.ensures

pub returns-then-there-n : goal.returns-then-there-n
returns-then-there-n c =
    let a = c.args in
    cut_refused (paper_edition a.edition) a.f a.n a.patterns.now _ c.if-f-ge-SHEET_FIELDS.false c.if-n-gt-PATTERN_BYTES.false c.if-there-n.true c.refuse-then-there-n.ensures

-- the codes that were lent to the pattern reader
abbrev its-bytes : After-tables → List ℕ
its-bytes c = let a = c.args in take a.n a.patterns.now

abbrev its-edition : After-tables → Edition
its-edition c = paper_edition c.args.edition

abbrev its-codes : After-tables → List ℕ
its-codes c = codes (its-edition c) (its-bytes c)

its-length : (c : After-tables) → length (its-bytes c) ≡ c.args.n
its-length c = let a = c.args in length-take-le a.n a.patterns.now c.if-there-n.false

as_many : (c : After-tables) → length (its-codes c) ≡ c.args.n
as_many c = length-map (its-bytes c) (code (its-edition c)) ∙ its-length c

laid : (c : After-tables) → take c.args.n c.codes_of-codes.result ≡ its-codes c
laid c =
    let n = c.args.n in
    ap (take n) (rw (sub-zero n) at c.codes_of-codes.ensures)
    ∙ codes_front (its-edition c) (its-bytes c) pattern_bytes n (its-length c) c.if-n-gt-PATTERN_BYTES.false

worked : (c : After-tables) → c.tables.result ≡ worked_of (judge (its-codes c))
worked c = rw sub-zero at c.tables.ensures ∙ ap (λ (l : List ℕ). worked_of (judge l)) (laid c)

pub overflow_add-refusal : goal.overflow_add-refusal
overflow_add-refusal c =
    let w = (goal.at.overflow_add-refusal c).After-tables in
    record { fits = omega (arith, told_within (its-codes w) c.in-Err.refusal (sym (worked w) ∙ c.in-Err.is), as_many w, c.if-n-gt-PATTERN_BYTES.false) }

pub returns-in-Err : goal.returns-in-Err
returns-in-Err c =
    let w = (goal.at.returns-in-Err c).After-tables in
    let a = c.args in
    judged_refused (paper_edition a.edition) a.f a.n a.patterns.now _ c.if-f-ge-SHEET_FIELDS.false c.if-n-gt-PATTERN_BYTES.false c.if-there-n.false
    c.in-Err.refusal (told_refused c.in-Err.refusal (judge (its-codes w)) (sym (worked w) ∙ c.in-Err.is))
    c.refuse-in-Err.ensures

pub returns-in-Ok : goal.returns-in-Ok
returns-in-Ok c =
    let w = (goal.at.returns-in-Ok c).After-tables in
    let a = c.args in
    let good = told_good c.in-Ok.field-0 (judge (its-codes w)) (sym (worked w) ∙ c.in-Ok.is) in
    pattern_put (paper_edition a.edition) a.f a.n a.patterns.now _ c.if-f-ge-SHEET_FIELDS.false c.if-n-gt-PATTERN_BYTES.false c.if-there-n.false good.0 good.1.0
    (rw (sub-zero a.n) at c.put_pattern.ensures) refl
