-- `spell` meets its contract. The loop's invariant: the signs of the text so far were put, at most two for each character. Follows from the laws of bytes put one behind the
-- other.
use Prim.Native.Nat.{◌+◌, ◌*◌, ◌≤◌}
use mathlib.Core.Path.{◌≡◌}
use mathlib.Core.List.{map}
use lib.ListN.{length, take}
use Rattle.paper.specs.Printed.{sign}
use Rattle.base_editions.specs.Editions.{paper_edition}
use Rattle.paper_print.specs.TextLines.{printed_values}
use Rattle.print_lines.specs.Writing.{Puts}
use Rattle.print_lines.proofs.spell.Given as goal

abbrev pub invariant-loop-c : goal.invariant-loop-c
invariant-loop-c l =
    (length l.out ≡ length l.initial.out)
    × (l.end ≤ l.at + 2 * l.c-index)
    × Puts l.initial.out l.out l.at l.end (map sign (printed_values (paper_edition l.edition) (take l.c-index l.text)))
