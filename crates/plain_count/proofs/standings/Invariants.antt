-- `standings` meets its contract. The loop's invariant: the tokens before i are counted, and those of what is left are not.
use Prim.Native.Nat.{◌+◌, ◌*◌, ◌≤◌}
use mathlib.Core.Path.{◌≡◌}
use lib.ListN.{drop}
use Rattle.base_codes.specs.Inner.{tokens}
use Rattle.plain_count.specs.StandingsCoded.{standings_coded}
use Rattle.plain_count.proofs.standings.Given as goal

abbrev pub invariant-loop-b : goal.invariant-loop-b
invariant-loop-b l =
    (l.n ≤ 3 + 255 * l.b-index) × (l.n + standings_coded l.places (tokens (drop l.b-index l.fn.side)) ≡ 3 + standings_coded l.places (tokens l.fn.side))
