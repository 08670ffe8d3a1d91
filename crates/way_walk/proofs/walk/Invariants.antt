-- `walk` meets its contract. The loop's invariant: some of the records were put, and from the situation that was come to spelling goes on as all of it
-- does from the first.
use mathlib.Core.Path.{◌≡◌}
use lib.ListN.{length}
use Rattle.base_codes.specs.Coded.{denoted, Short}
use Rattle.search_children.specs.Laid.{tables_lent}
use Rattle.paper_steps.specs.Player.{most_steps}
use Prim.Native.Nat.{◌-◌}
use Rattle.way_walk.specs.SpellCoded.{spelled_coded}
use Rattle.way_walk.proofs.Spelt.{spell_left, Going}
use Rattle.way_walk.proofs.walk.Given as goal

abbrev pub invariant-loop : goal.invariant-loop
invariant-loop l =
    (length l.out ≡ length l.initial.out)
    × Short (denoted l.s)
    × Going (spelled_coded (tables_lent l.tables) l.space l.texts l.ends (denoted l.initial.s) l.initial.counts)
    (spell_left (tables_lent l.tables) l.space l.texts l.ends (most_steps - l.counter) (denoted l.s) l.counts) l.initial.out l.out l.end
