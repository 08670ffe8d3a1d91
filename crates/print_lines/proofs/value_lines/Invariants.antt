-- `value_lines` meets its contract. The loop's invariant: the lines of the records passed were put, and they have at most twice as many
-- bytes as those records. Follows from `Walked`.
use Prim.Native.Nat.{ℕ, ◌+◌, ◌*◌, ◌-◌, ◌≤◌}
use mathlib.Core.Path.{◌≡◌}
use lib.ListN.{length}
use Rattle.base_editions.specs.Editions.{paper_edition}
use Rattle.paper_print.specs.TextLines.{value_lines}
use Rattle.print_lines.proofs.Walked.{Underway}
use Rattle.print_lines.proofs.value_lines.Given as goal

abbrev pub invariant-loop-from : goal.invariant-loop-from
invariant-loop-from l =
    (l.from ≤ length l.records)
    × (length l.out ≡ length l.initial.out)
    × (l.end ≤ l.at + 2 * l.from)
    × ((n : ℕ) → length l.records ≤ n → Underway (paper_edition l.edition) (value_lines (paper_edition l.edition) n l.records) l.records l.initial.out l.out l.at l.from l.end)

abbrev pub decreases-loop-from : goal.decreases-loop-from
decreases-loop-from l = length l.records - l.from
