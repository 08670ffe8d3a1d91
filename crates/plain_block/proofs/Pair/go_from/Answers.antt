-- `go_from` meets its contract: what the two sets of followers take of the same character is what comes after the pairs of the place (`next_read`), and
-- where one of them is empty nothing does.
use borrow.Author.Rules.{rules}
use mathlib.Core.Path.{refl}
use mir.Syntax.{w64}
use mir.Val.{Fits}
use lib.ListN.{get_or}
use Rattle.base_places.specs.Masks.{followers_of}
use Rattle.plain_block.proofs.Characters.{next_read, next_no_left, next_no_right}
use Rattle.plain_block.proofs.Pair.go_from.Goals as goal

pub returns-then-lefts-eq0 : goal.returns-then-lefts-eq0
returns-then-lefts-eq0 c =
    let a = c.args in
    next_no_left a.self.now.left_follow.now a.self.now.left_taking.now a.self.now.right_follow.now a.self.now.right_taking.now a.self.now.lo a.self.now.hi a.rows.now a.todo a.i
    (followers_of a.self.now.right_follow.now (get_or a.rows.now a.i 0)) c.requires refl c.told-rows c.ranges.todo.fits c.if-lefts-eq0.true

pub returns-then-rights-eq0 : goal.returns-then-rights-eq0
returns-then-rights-eq0 c =
    let f = c.followers-rights in
    let a = c.args in
    next_no_right a.self.now.left_follow.now a.self.now.left_taking.now a.self.now.right_follow.now a.self.now.right_taking.now a.self.now.lo a.self.now.hi a.rows.now a.todo
    a.i f.result c.requires f.ensures c.told-rows c.ranges.todo.fits c.if-rights-eq0.true

pub returns : goal.returns
returns c =
    let f = c.followers-rights in
    let a = c.args in
    let narrow : Fits w64 f.result = search rules in
    next_read a.self.now.left_follow.now a.self.now.left_taking.now a.self.now.right_follow.now a.self.now.right_taking.now a.self.now.lo a.self.now.hi a.rows.now a.todo a.i
    f.result c.requires f.ensures narrow.fits c.read.new.rows c.read.result c.read.ensures
