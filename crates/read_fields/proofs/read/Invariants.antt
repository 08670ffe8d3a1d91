-- `read` meets its contract. The loop's invariant: the records are read up to the offset. The measure is what is left.
-- Assumes nothing.
use Prim.Native.Nat.{◌-◌}
use lib.ListN.{length}
use Rattle.base_editions.specs.Editions.{paper_edition}
use Rattle.read_fields.proofs.Reached.{Reached}
use Rattle.read_fields.proofs.read.Given as goal

abbrev pub invariant-loop-edition : goal.invariant-loop-edition
invariant-loop-edition l = Reached (paper_edition l.edition) l.s l.initial.c.at l.c.at l.c.above l.tables l.bodies

abbrev pub decreases-loop-edition : goal.decreases-loop-edition
decreases-loop-edition l = length l.s - l.c.at
