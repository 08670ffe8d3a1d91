-- `tables` meets its contract: each way out is a case of how the bytes are judged (`Judged`).
use Rattle.std.proofs.Common.{◌≡◌, ℕ, List, length, refl, sym, ap, subst, arith, Result, Ok, Err}
use native.Mathlib.Nat.{le_refl}
use Rattle.paper.specs.Written.{read_part}
use Rattle.read_pattern.specs.Lent.{read_as, last_bytes}
use Rattle.read_pattern.specs.ReadPart.{Working, working, ReadAs, ReadingOf}
use Rattle.read_pattern.specs.Worked.{worked_of}
use Rattle.read_pattern.specs.declared.reader.ReadPart.{ReadPart}
use Rattle.read_pattern.proofs.LastBytes.{last_all}
use Rattle.read_pattern.proofs.PatternJudged.{unworked, judge_bad, fault_inside, judge_left, left_within, surplus_inside, judge_many, judge_good}
use Rattle.read_pattern.proofs.tables.Goals.{After-read}
use Rattle.read_pattern.proofs.tables.Goals as goal

-- the tables that are filled, and the reading of all the bytes
abbrev filled : After-read → Working
filled d = working d.read.new.follow d.read.new.taking

abbrev bytes : After-read → List ℕ
bytes d = d.args.s.now

whole : (s : List ℕ) (p : ReadPart) (w v : Working) (r : Result ReadPart ℕ) → p.left ≡ length s → p.next ≡ 1
    → ReadingOf (last_bytes p.left s) p.next w v r → ReadAs (read_part (length s) s) 1 w v r
whole s p w v r h k d = (rw (h, last_all s, k) at d) (length s) (le_refl (length s))

reads : (d : After-read) (r : Result ReadPart ℕ) → read_as d.read.result d.read.new.part ≡ r
    → ReadAs (read_part (length (bytes d)) (bytes d)) 1 unworked (filled d) r
reads d r e =
    let k = d.empty-part.ensures (bytes d) refl in
    whole (bytes d) d.empty-part.result unworked (filled d) r k.left k.next
    (subst (ReadingOf (last_bytes d.empty-part.result.left (bytes d)) d.empty-part.result.next unworked (filled d)) e d.read.ensures)

fails : (d : After-read) (left : ℕ) → d.read.result ≡ Err left → ReadAs (read_part (length (bytes d)) (bytes d)) 1 unworked (filled d) (Err left)
fails d left e = reads d (Err left) (ap (λ r. read_as r d.read.new.part) e)

stands : (d : After-read) (x : Unit) → d.read.result ≡ Ok x → ReadAs (read_part (length (bytes d)) (bytes d)) 1 unworked (filled d) (Ok d.read.new.part)
stands d x e = reads d (Ok d.read.new.part) (ap (λ r. read_as r d.read.new.part) e)

-- the subtractions stay above zero
pub overflow_sub-result : goal.overflow_sub-result
overflow_sub-result c =
    let d = (goal.at.overflow_sub-result c).After-read in
    fault_inside c.in-Err.left (filled d) (bytes d) (fails d _ c.in-Err.is)

pub returns-in-Err : goal.returns-in-Err
returns-in-Err c =
    let d = (goal.at.returns-in-Err c).After-read in
    sym (ap worked_of (judge_bad c.in-Err.left (filled d) (bytes d) (fails d _ c.in-Err.is)))

pub overflow_sub-result-then-part-gt0 : goal.overflow_sub-result-then-part-gt0
overflow_sub-result-then-part-gt0 c =
    let d = (goal.at.overflow_sub-result-then-part-gt0 c).After-read in
    left_within d.read.new.part (filled d) (bytes d) (stands d _ c.in_default.is)

pub returns-then-part-gt0 : goal.returns-then-part-gt0
returns-then-part-gt0 c =
    let d = (goal.at.returns-then-part-gt0 c).After-read in
    sym (ap worked_of (judge_left d.read.new.part (filled d) (bytes d) (stands d _ c.in_default.is) c.if-part-gt0.true))

pub overflow_sub-result-then-part-gt-PLACES : goal.overflow_sub-result-then-part-gt-PLACES
overflow_sub-result-then-part-gt-PLACES c =
    let d = (goal.at.overflow_sub-result-then-part-gt-PLACES c).After-read in
    surplus_inside d.read.new.part (filled d) (bytes d) (stands d _ c.in_default.is) (omega arith)

pub returns-then-part-gt-PLACES : goal.returns-then-part-gt-PLACES
returns-then-part-gt-PLACES c =
    let d = (goal.at.returns-then-part-gt-PLACES c).After-read in
    sym (ap worked_of (judge_many d.read.new.part (filled d) (bytes d) (stands d _ c.in_default.is) (omega arith) c.if-part-gt-PLACES.true))

pub returns : goal.returns
returns c =
    let d = (goal.at.returns c).After-read in
    judge_good d.read.new.part (filled d) (bytes d) (stands d _ c.in_default.is) (omega arith) c.if-part-gt-PLACES.false
    c.place.result c.when.result c.place.ensures c.when.ensures
