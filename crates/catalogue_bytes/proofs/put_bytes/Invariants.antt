-- `put` puts the bytes from an offset on. The loop's invariant: the first i are put. Follows from the laws of `paste`.
use mathlib.Core.Path.{◌≡◌}
use lib.ListN.{length}
use lib.Seq.{paste}
use Rattle.catalogue_bytes.proofs.put_bytes.Given as goal

abbrev pub invariant-loop-i : goal.invariant-loop-i
invariant-loop-i l =
    (length l.catalogue ≡ length l.initial.catalogue) × (l.catalogue ≡ paste l.initial.catalogue l.at l.bytes l.i)
