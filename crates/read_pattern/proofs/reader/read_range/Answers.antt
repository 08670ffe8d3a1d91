-- `reader::read_range` meets its contract: each way out is a case of `read_range` (`ReadParts`).
use native.Mathlib.Numerals.{add-one}
use lib.ListN.{length, drop, length-drop}
use Rattle.read_pattern.proofs.ReadParts.{range_none, range_lo, range_short, range_good, leaf_as}
use Rattle.read_pattern.proofs.reader.read_range.Goals as goal

pub returns-then-left-lt1 : goal.returns-then-left-lt1
returns-then-left-lt1 c follow = rw (range_none c.args.s.now c.if-left-lt1.true)

pub returns-then-lo-ge-CHARACTER_END : goal.returns-then-lo-ge-CHARACTER_END
returns-then-lo-ge-CHARACTER_END c follow = rw (range_lo c.args.s.now c.if-left-lt1.false c.if-lo-ge-CHARACTER_END.true)

pub returns-then-left-lt2 : goal.returns-then-left-lt2
returns-then-left-lt2 c follow =
    rw (range_short c.args.s.now c.if-left-lt1.false c.if-lo-ge-CHARACTER_END.false c.if-left-lt2.true)

pub returns : goal.returns
returns c follow =
    let a = c.args in
    rw (range_good a.s.now c.if-left-lt2.false c.if-hi-lo.false c.if-hi-ge-CHARACTER_END.false, ← add-one (length a.s.now))
    (leaf_as _ _ _ _ a.o follow a.taking.now _ c.leaf.result c.leaf.ensures (drop 2 a.s.now) (length-drop 2 a.s.now))
