-- `label_length` meets its contract. The loop's invariant: the tokens that were gone through, and those that are left.
use Prim.Native.Nat.{◌+◌, ◌*◌, ◌≤◌}
use mathlib.Core.Path.{◌≡◌}
use lib.ListN.{drop}
use Rattle.base_codes.specs.Inner.{tokens}
use Rattle.way_records.specs.Spans.{label_coded}
use Rattle.way_records.proofs.label_length.Given as goal

abbrev pub invariant-loop-token : goal.invariant-loop-token
invariant-loop-token l =
    (l.total ≤ l.token-index * 65535)
    × (label_coded l.left (tokens l.fn.side) ≡ l.total + label_coded l.left (drop l.token-index (tokens l.fn.side)))
