-- `spell` calls itself, and the measure is the number of bytes from the offset on: the second part begins behind the first.
use Prim.Native.Nat.{◌-◌}
use lib.ListN.{length}
use Rattle.script_terms.proofs.+spell.Given as goal

abbrev pub decreases-spell : goal.decreases-spell
decreases-spell l = length l.s.now - l.i
