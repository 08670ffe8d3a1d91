-- `put_all` meets its contract. The loop's invariant: the bytes so far were put.
use lib.ListN.{take}
use Rattle.base_put.specs.Counted.{Counted}
use Rattle.base_put.proofs.put_all.Given as goal

abbrev pub invariant-loop-byte : goal.invariant-loop-byte
invariant-loop-byte l = Counted l.initial.out l.out l.at l.end (take l.byte-index l.bytes)
