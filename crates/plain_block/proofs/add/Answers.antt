-- `add` meets its contract. The loop's invariant: the places of the set that are not in the rest have been added (`Adding`). The rest falls.
use Rattle.plain_block.proofs.Digits.{lowest_below}
use Rattle.plain_block.proofs.Growing.{no_right, adding_none, adding_more, adding_all}
use Rattle.plain_block.proofs.add.Goals as goal

pub returns-then-more-eq0 : goal.returns-then-more-eq0
returns-then-more-eq0 c =
    let a = c.args in
    no_right a.rows.now a.todo a.set a.more c.told-rows c.ranges.todo.fits c.if-more-eq0.true

pub loop-rest-init : goal.loop-rest-init
loop-rest-init c =
    let a = c.args in
    adding_none a.rows.now a.set a.more a.todo c.told-rows c.ranges.set.fits c.ranges.todo.fits

pub grow-r-requires : goal.grow-r-requires
grow-r-requires c =
    let l = c.loop-rest in
    lowest_below l.rest c.loop-rest-test.true l.invariant.narrow

pub loop-rest-preserved : goal.loop-rest-preserved
loop-rest-preserved c =
    let l = c.loop-rest in
    let a = c.args in
    adding_more a.rows.now a.set a.more a.todo l.rows l.r l.rest l.invariant c.loop-rest-test.true
    c.grow-r.new.rows c.grow-r.result c.grow-r.ensures

pub returns : goal.returns
returns c =
    let l = c.loop-rest in
    let a = c.args in
    adding_all a.rows.now a.set a.more a.todo l.rows l.r l.rest l.invariant c.loop-rest-test.false
