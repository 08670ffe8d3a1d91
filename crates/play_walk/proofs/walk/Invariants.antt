-- `walk` meets its contract. The loop's invariant: from the situation that was come to, the bytes that are left end as all of them do from the first.
use Prim.Native.Nat.{◌≤◌, ◌-◌}
use mathlib.Core.Path.{◌≡◌}
use lib.ListN.{length, drop}
use Rattle.paper_steps.specs.Player.{most_steps}
use Rattle.base_codes.specs.Coded.{denoted, Short}
use Rattle.search_children.specs.Laid.{tables_lent}
use Rattle.play_walk.specs.WalkCoded.{walk_from, walked}
use Rattle.play_walk.proofs.walk.Given as goal

abbrev pub invariant-loop : goal.invariant-loop
invariant-loop l =
    (l.at ≤ length l.steps)
    × Short (denoted l.s)
    × (walked (tables_lent l.tables) (denoted l.initial.s) l.steps ≡ walk_from (tables_lent l.tables) (most_steps - l.counter) (denoted l.s) (drop l.at l.steps))
