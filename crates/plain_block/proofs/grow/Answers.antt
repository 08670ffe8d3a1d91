-- `grow` meets its contract: either the row has all of it already (`grows_not`), or it grows, and its place is marked (`grows_one`).
use Prim.Native.Nat.{◌*◌, ◌%◌, ◌^◌}
use Rattle.base_places.specs.Masks.{places}
use Rattle.plain_block.proofs.Digits.{mark_is}
use Rattle.plain_block.proofs.Growing.{grows_not, grows_one}
use Rattle.plain_block.proofs.grow.Goals as goal

pub returns-then-grown-row : goal.returns-then-grown-row
returns-then-grown-row c =
    let a = c.args in
    grows_not a.rows.now a.todo a.i a.more c.joined-grown.result c.told-rows c.ranges.todo.fits c.requires
    c.joined-grown.ensures.0 c.if-grown-row.true

pub returns : goal.returns
returns c =
    let a = c.args in
    let j = c.joined-grown in
    grows_one a.rows.now a.todo a.i a.more j.result c.told-rows c.ranges.todo.fits c.requires j.ensures.0 c.if-grown-row.false
    j.ensures.1 (1 * 2 ^ a.i % 2 ^ places) (mark_is a.i c.requires)
