-- `find_by` meets its contract. The loop's invariant: the catalogue is read so far (`Reached`). The measure is what is left. Assumes nothing.
use Prim.Native.Nat.{◌-◌}
use lib.ListN.{length}
use Rattle.catalogue_form.specs.Kept.{unfit_by}
use Rattle.catalogue_form.proofs.Reached.{Reached}
use Rattle.catalogue_form.proofs.find_by.Given as goal

abbrev pub invariant-loop-begins : goal.invariant-loop-begins
invariant-loop-begins l = Reached (unfit_by l.strict) l.catalogue l.begins l.rules l.used

abbrev pub decreases-loop-begins : goal.decreases-loop-begins
decreases-loop-begins l = length l.catalogue - l.used
