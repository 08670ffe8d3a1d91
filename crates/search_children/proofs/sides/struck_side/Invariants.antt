-- `sides::struck_side` meets its contract. The loop's invariant: what is made of the first tokens is written, at most two for each.
use Prim.Native.Nat.{◌+◌, ◌≤◌}
use lib.ListN.{take}
use Rattle.search_children.specs.Children.{strike_codes}
use Rattle.search_children.proofs.ChildTurns.{Written}
use Rattle.search_children.proofs.sides.struck_side.Given as goal

abbrev pub invariant-loop-x : goal.invariant-loop-x
invariant-loop-x l = (l.n ≤ l.x-index + l.x-index) × Written (strike_codes l.b) l.side l.x-index (take l.n l.bytes)
