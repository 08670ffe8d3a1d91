-- `cross` meets its contract: the rows begin with the pairs at which a token came in front (`going_begins`), all is gone on from, and what is told is told
-- of every pair that is met (`crossed`).
use borrow.Author.Rules.{rules}
use mathlib.Core.Path.{refl}
use mir.Syntax.{w64}
use mir.Val.{Fits}
use lib.Dec.{eqb}
use lib.ListN.{get_or, replicate}
use Prim.Native.Nat.{◌%◌}
use Rattle.base_places.specs.Masks.{places}
use Rattle.plain_block.specs.Met.{tables}
use Rattle.plain_block.proofs.Closed.{no_pair, going_begins}
use Rattle.plain_block.proofs.Crossing.{crossed}
use Rattle.plain_block.proofs.cross.Goals as goal

pub returns : goal.returns
returns c =
    let f = c.followers-left in
    let g = c.go_on-met in
    let two = c.add-todo in
    let one = c.add-first in
    let a = c.args in
    let l = tables a.left_follow.now a.left_taking.now a.left_last in
    let r = tables a.right_follow.now a.right_taking.now a.right_last in
    let narrow : Fits w64 f.result = search rules in
    crossed l r a.lo a.hi a.left_came a.right_came c.ranges.left_came.fits c.ranges.right_came.fits g.new.rows g.result
    (g.ensures a.left_last a.right_last a.left_came a.right_came
    (going_begins l r a.lo a.hi a.left_came a.right_came (replicate places 0) one.new.rows two.new.rows one.result two.result
    (no_pair places) one.ensures two.ensures))
    (record { left = f.result; right = c.with_some-right.result; starts = eqb (get_or g.new.rows 0 0 % 2) 1 }) f.ensures narrow.fits
    c.with_some-right.ensures c.ranges.right_last.fits refl
