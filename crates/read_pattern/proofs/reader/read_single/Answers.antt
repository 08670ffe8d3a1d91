-- `reader::read_single` meets its contract: each way out is a case of the first byte (`ReadParts`).
use native.Mathlib.Omega.{arith}
use mathlib.Core.Path.{refl}
use Rattle.std.specs.Prelude.{Ok}
use lib.ListN.{drop, length-drop}
use Rattle.read_pattern.specs.ReadPart.{working}
use Rattle.read_pattern.proofs.ReadParts.{to_end, leaf_as, empty_as, as_char, as_empty, as_range, as_none}
use Rattle.read_pattern.proofs.reader.read_single.Goals as goal

pub returns-then-b-lt-CHARACTER_END : goal.returns-then-b-lt-CHARACTER_END
returns-then-b-lt-CHARACTER_END c follow =
    let a = c.args in
    as_char a.s.now a.o (working follow a.taking.now) (working follow _) (Ok c.leaf.result) c.requires.1 c.if-b-lt-CHARACTER_END.true
    (leaf_as _ _ _ _ a.o follow a.taking.now _ c.leaf.result c.leaf.ensures (drop 1 a.s.now) (length-drop 1 a.s.now))

pub returns-then-b : goal.returns-then-b
returns-then-b c follow =
    let a = c.args in
    as_empty a.s.now a.o (working follow a.taking.now) (working follow a.taking.now) (Ok c.empty.result) c.requires.1 c.if-b.true
    (empty_as _ a.o follow a.taking.now c.empty.result c.empty.ensures (drop 1 a.s.now) (length-drop 1 a.s.now))

pub returns-then-b-2 : goal.returns-then-b-2
returns-then-b-2 c follow =
    let a = c.args in
    as_range a.s.now a.o (working follow a.taking.now) (working follow _) c.read_range.result c.requires.1 c.if-b-2.true
    (rw (to_end 1 a.s.now) at (c.read_range.ensures follow))

pub returns : goal.returns
returns c follow =
    let a = c.args in
    as_none a.s.now a.o (working follow a.taking.now) (working follow a.taking.now) _ c.requires.1
    c.if-b-lt-CHARACTER_END.false c.if-b.false c.if-b-2.false
    (omega arith) (omega arith) (omega arith) refl
