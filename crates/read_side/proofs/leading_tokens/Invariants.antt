-- `sides::leading_tokens` meets its contract. The loop's invariant: as many lead as were passed, and as lead from `i` on. Assumes nothing.
use Prim.Native.Nat.{◌+◌, ◌≤◌}
use mathlib.Core.Path.{◌≡◌}
use lib.ListN.{length, drop}
use Rattle.paper.specs.Lists.{leading}
use Rattle.paper.specs.Alphabet.{codes}
use Rattle.paper.specs.Sheet.{is_token}
use Rattle.base_editions.specs.Editions.{paper_edition}
use Rattle.read_side.proofs.leading_tokens.Given as goal

abbrev pub invariant-loop-i : goal.invariant-loop-i
invariant-loop-i l =
    (l.i ≤ length l.side) × (leading is_token (codes (paper_edition l.edition) l.side) ≡ l.i + leading is_token (codes (paper_edition l.edition) (drop l.i l.side)))
