-- `put_text` meets its contract. The loop's invariant: some of the text was put, and the rest of it is what the bytes that are left put from the
-- situation that was come to.
use Prim.Native.Nat.{◌≤◌, ◌-◌}
use mathlib.Core.Path.{◌≡◌}
use lib.ListN.{length, drop}
use Rattle.paper_steps.specs.Player.{most_steps}
use Rattle.base_codes.specs.Coded.{denoted, Short}
use Rattle.search_children.specs.Laid.{tables_lent}
use Rattle.play_walk.specs.WalkCoded.{text_from, text_walked}
use Rattle.play_walk.proofs.Texts.{Underway}
use Rattle.play_walk.proofs.put_text.Given as goal

abbrev pub invariant-loop : goal.invariant-loop
invariant-loop l =
    (l.i ≤ length l.steps)
    × (length l.out ≡ length l.initial.out)
    × Short (denoted l.s)
    × Underway (text_walked (tables_lent l.tables) l.f (denoted l.initial.s) l.steps) (text_from (tables_lent l.tables) l.f (most_steps - l.counter) (denoted l.s) (drop l.i l.steps)) l.initial.out l.out l.at l.end
