-- `fronts` meets its contract. The loop's invariant: the answer is that for what is left of both sides.
use lib.ListN.{length}
use Rattle.base_editions.specs.Editions.{paper_edition}
use Rattle.fronts_sides.proofs.FixedWalk.{Alike}
use Rattle.fronts_sides.proofs.fronts.Given as goal

abbrev pub invariant-loop-a : goal.invariant-loop-a
invariant-loop-a l = Alike (paper_edition l.edition) l.left l.right (length l.yielded)
