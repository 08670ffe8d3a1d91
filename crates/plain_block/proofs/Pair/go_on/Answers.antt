-- `go_on` meets its contract. The loop's invariant: what is known of the rows at the beginning is known of them now, but for the places that are still to
-- be gone on from (`Going`). What falls is `weight`: how far the rows may still grow, and then the set that is left.
use native.Mathlib.Nat.{lt_of_le_of_lt}
use Rattle.plain_block.specs.Met.{tables}
use Rattle.plain_block.proofs.Digits.{lowest_below}
use Rattle.plain_block.proofs.Closed.{weight_taken, going_on}
use Rattle.plain_block.proofs.Pair.go_on.Goals as goal

pub loop-left-init : goal.loop-left-init
loop-left-init c = (c.told-rows, c.ranges.todo.fits, λ a b m n x. x)

pub go_from-left-requires : goal.go_from-left-requires
go_from-left-requires c =
    let l = c.loop-left in
    lowest_below l.left c.loop-left-test.true l.invariant.1

pub loop-left-smaller : goal.loop-left-smaller
loop-left-smaller c =
    let l = c.loop-left in
    lt_of_le_of_lt c.go_from-left.ensures.falls (weight_taken l.rows l.left c.loop-left-test.true)

pub loop-left-preserved : goal.loop-left-preserved
loop-left-preserved c =
    let l = c.loop-left in
    let s = c.args in
    let g = c.go_from-left in (
      g.ensures.long,
      g.ensures.small,
      λ a b m n x.
          going_on (tables s.self.now.left_follow.now s.self.now.left_taking.now a) (tables s.self.now.right_follow.now s.self.now.right_taking.now b) s.self.now.lo s.self.now.hi m n
          l.rows l.left l.met (l.invariant.2 a b m n x) c.loop-left-test.true l.invariant.1 g.new.rows g.result g.ensures,
    )

pub returns : goal.returns
returns c a b m n x = rw c.loop-left-test.false at (c.loop-left.invariant.2 a b m n x)
