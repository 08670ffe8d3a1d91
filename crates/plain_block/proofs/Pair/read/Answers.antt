-- `read` meets its contract. The loop's invariant: what is taken by the characters below c has been added (`Reading`).
use native.Mathlib.Omega.{arith}
use Rattle.plain_block.proofs.Characters.{reading_none, reading_more, reading_all}
use Rattle.plain_block.proofs.Pair.read.Goals as goal

pub loop-c-init : goal.loop-c-init
loop-c-init c =
    let a = c.args in
    reading_none a.rows.now a.lefts a.rights a.self.now.left_taking.now a.self.now.right_taking.now a.self.now.lo a.self.now.hi a.todo c.told-rows
    c.ranges.todo.fits

pub loop-c-preserved : goal.loop-c-preserved
loop-c-preserved c =
    let l = c.loop-c in
    let a = c.args in
    reading_more a.rows.now a.lefts a.rights a.self.now.left_taking.now a.self.now.right_taking.now a.self.now.lo a.self.now.hi a.todo l.rows l.r l.c
    l.invariant (omega arith) c.add-r.new.rows c.add-r.result c.add-r.ensures

pub returns : goal.returns
returns c =
    let l = c.loop-c in
    let a = c.args in
    reading_all a.rows.now a.lefts a.rights a.self.now.left_taking.now a.self.now.right_taking.now a.self.now.lo a.self.now.hi a.todo l.rows l.r l.c
    l.invariant (omega arith)
