-- `reader::read` meets its contract. It calls itself, and the measure is the number of bytes left: the first part has one less, and the
-- second begins behind it. Each way out is a case of the first byte and of what the parts' readings say (`ReadParts`), which stand in the lent part
-- (`LastBytes`).
use Rattle.std.proofs.Common.{◌≡◌, ℕ, ◌-◌, ◌≤◌, ◌<◌, List, length, get_or, refl, sym, ap, ◌∙◌, arith, Ok, Err}
use Rattle.std.proofs.lemmas.Result.{err_from_is_err_and}
use Rattle.paper.specs.Numbers.{then_code, or_code, many_code}
use Rattle.read_pattern.specs.Lent.{last_bytes, Begins}
use Rattle.read_pattern.specs.ReadPart.{Working, working, ReadingOf}
use Rattle.read_pattern.specs.declared.reader.ReadPart.{ReadPart}
use Rattle.read_pattern.proofs.ReadParts.{First, to_end, as_nothing, as_none, as_no_first, as_many, as_then, as_or, as_no_second}
use Rattle.read_pattern.proofs.LastBytes.{last_length, last_front, some_last, first_part, second_less, second_begins, second_part}
use Rattle.read_pattern.proofs.reader.+read.Goals as goal

-- some byte is left
some : (n : ℕ) → (n ≡ 0 → ⊥) → 0 < n
some n h = omega arith

-- what the tests on the byte that was read say of the first byte of the pattern
module _ {s : List ℕ} {l : ReadPart} (b : Begins s l) where
  low : then_code ≤ get_or s (length s - l.left) 0 → then_code ≤ get_or (last_bytes l.left s) 0 0
  low h = omega (arith, last_front s l.left b.within)

  high : get_or s (length s - l.left) 0 ≤ many_code → get_or (last_bytes l.left s) 0 0 ≤ many_code
  high h = omega (arith, last_front s l.left b.within)

  two_parts : get_or s (length s - l.left) 0 ≤ many_code → (get_or s (length s - l.left) 0 ≡ many_code → ⊥)
      → get_or (last_bytes l.left s) 0 0 ≤ or_code
  two_parts h k = omega (arith, last_front s l.left b.within)

  is_or : then_code ≤ get_or s (length s - l.left) 0 → get_or s (length s - l.left) 0 ≤ many_code
      → (get_or s (length s - l.left) 0 ≡ many_code → ⊥) → (get_or s (length s - l.left) 0 ≡ then_code → ⊥)
      → get_or (last_bytes l.left s) 0 0 ≡ or_code
  is_or g h k m = omega (arith, last_front s l.left b.within)

pub returns-then-left-eq0 : goal.returns-then-left-eq0
returns-then-left-eq0 t c =
    let s = c.args.s.now in
    let l = c.args.part.now in
    let h = last_length s l.left c.requires.within in
    let e = c.if-left-eq0.true in
    let w = working c.args.follow.now c.args.taking.now in
    as_nothing (last_bytes l.left s) l.next w w (omega arith)

pub returns-then-b-lt-THEN_CODE : goal.returns-then-b-lt-THEN_CODE
returns-then-b-lt-THEN_CODE t c =
    let s = c.args.s.now in
    rw (to_end (length s - c.args.part.now.left) s) at (c.in_ok-part.ensures c.args.follow.now)

pub returns-then-b-gt-MANY_CODE : goal.returns-then-b-gt-MANY_CODE
returns-then-b-gt-MANY_CODE t c =
    let s = c.args.s.now in
    let l = c.args.part.now in
    let b = c.requires in
    let h = last_length s l.left b.within in
    let i = some _ c.if-left-eq0.false in
    let f = last_front s l.left b.within in
    let g = c.if-b-gt-MANY_CODE.true in
    let w = working c.args.follow.now c.args.taking.now in
    as_none (last_bytes l.left s) l.next w w _ (omega arith) (omega arith) (omega arith) (omega arith)
    (omega arith) (omega arith) (omega arith) (ap Err (sym h))

pub returns-in_err-read : goal.returns-in_err-read
returns-in_err-read t c =
    let b = c.requires in
    let i = some _ c.if-left-eq0.false in
    let p = err_from_is_err_and c.from_residual-in_err-read.result c.from_residual-in_err-read.ensures.1 in
    rw (p.1, p.2)
    (as_no_first _ (some_last b i) (first_part b i (Err c.in_err-read.field-0.0) c.in_err-read.ensures) (working c.read.new.follow c.read.new.taking)
    (low b c.if-b-lt-THEN_CODE.false) (high b c.if-b-gt-MANY_CODE.false))

-- the reading of the first part
first : {s : List ℕ} {l : ReadPart} (b : Begins s l) → (l.left ≡ 0 → ⊥) → (w v : Working) (a : ReadPart)
    → ReadingOf (last_bytes (l.left - 1) s) l.next w v (Ok a) → First (last_bytes l.left s) l.next w v a
first {l = l} b h w v a d = let i = some l.left h in record { some = some_last b i; reads = first_part b i (Ok a) d }

pub returns-then-b : goal.returns-then-b
returns-then-b t c =
    let b = c.requires in
    let r = c.read.new in
    let f = first b c.if-left-eq0.false _ (working r.follow r.taking) r.part c.in_ok-read.ensures in
    as_many f (working c.link.new.follow r.taking) c.many.result (last_front c.args.s.now c.args.part.now.left b.within ∙ c.if-b.true) c.many.ensures
    (record { follow = c.link.ensures; taking = refl })

pub read-requires-2 : goal.read-requires-2
read-requires-2 t c =
    let b = c.requires in
    let i = some _ c.if-left-eq0.false in
    let r = c.read.new in
    let f = first b c.if-left-eq0.false _ (working r.follow r.taking) r.part c.in_ok-read.ensures in
    let less = second_less b i f in (
      omega (arith, less, c.decreases),
      second_begins b i f,
    )

pub returns-in_err-read-2 : goal.returns-in_err-read-2
returns-in_err-read-2 t c =
    let b = c.requires in
    let i = some _ c.if-left-eq0.false in
    let r = c.read.new in
    let f = first b c.if-left-eq0.false _ (working r.follow r.taking) r.part c.in_ok-read.ensures in
    let d = second_part b i f (Err c.in_err-read-2.field-0.0) c.in_err-read-2.ensures in
    let p = err_from_is_err_and c.from_residual-in_err-read-2.result c.from_residual-in_err-read-2.ensures.1 in
    rw (p.1, p.2)
    (as_no_second f d _ (low b c.if-b-lt-THEN_CODE.false) (two_parts b c.if-b-gt-MANY_CODE.false c.if-b.false))

pub returns-then-b-2 : goal.returns-then-b-2
returns-then-b-2 t c =
    let b = c.requires in
    let i = some _ c.if-left-eq0.false in
    let r = c.read.new in
    let q = c.read-2.new in
    let f = first b c.if-left-eq0.false _ (working r.follow r.taking) r.part c.in_ok-read.ensures in
    let d = second_part b i f (Ok q.part) c.in_ok-read-2.ensures in
    as_then f d (working c.link-then-b-2.new.follow q.taking) c.then.result
    (last_front c.args.s.now c.args.part.now.left b.within ∙ c.if-b-2.true) c.then.ensures
    (record { follow = c.link-then-b-2.ensures; taking = refl })

pub returns-else-b-2 : goal.returns-else-b-2
returns-else-b-2 t c =
    let b = c.requires in
    let i = some _ c.if-left-eq0.false in
    let r = c.read.new in
    let q = c.read-2.new in
    let f = first b c.if-left-eq0.false _ (working r.follow r.taking) r.part c.in_ok-read.ensures in
    let d = second_part b i f (Ok q.part) c.in_ok-read-2.ensures in
    let e = is_or b c.if-b-lt-THEN_CODE.false c.if-b-gt-MANY_CODE.false c.if-b.false c.if-b-2.false in
    as_or f d c.or.result e c.or.ensures
