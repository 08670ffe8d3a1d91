-- `go_on` meets its contract. The loop's invariant: what is known of the rows at the beginning is known of them now, but for the places that are still to
-- be gone on from (`Going`). What falls is `weight`: how far the rows may still grow, and then the set that is left.
use Prim.Native.Nat.{◌^◌, ◌<◌}
use mathlib.Core.Path.{◌≡◌}
use lib.ListN.{length}
use Rattle.base_places.specs.Masks.{places}
use Rattle.plain_block.specs.Rows.{weight, GoneOn}
use Rattle.plain_block.proofs.Pair.go_on.Given as goal

abbrev pub invariant-loop-left : goal.invariant-loop-left
invariant-loop-left l =
    (length l.rows ≡ places) × (l.left < 2 ^ places)
    × GoneOn l.self.left_follow.now l.self.left_taking.now l.self.right_follow.now l.self.right_taking.now l.self.lo l.self.hi l.initial.rows l.todo l.rows l.left l.met

abbrev pub decreases-loop-left : goal.decreases-loop-left
decreases-loop-left l = weight l.rows l.left
