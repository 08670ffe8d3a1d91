-- `codes_of` meets its contract. The loop's invariant: the codes of the first i bytes are laid (`Laying`). Assumes nothing.
use Prim.Native.Nat.{◌≤◌}
use mathlib.Core.Path.{◌≡◌}
use lib.ListN.{length}
use Rattle.paper.specs.Numbers.{not_a_code}
use Rattle.paper.specs.Alphabet.{codes}
use Rattle.base_editions.specs.Editions.{paper_edition}
use Rattle.read_codes.proofs.Laying.{laid}
use Rattle.read_codes.proofs.codes_of.Given as goal

abbrev pub invariant-loop-i : goal.invariant-loop-i
invariant-loop-i g l =
    ((l.i ≤ length l.bytes) × (l.i ≤ g.row.N)) × (l.codes ≡ laid (codes (paper_edition l.edition) l.bytes) not_a_code g.row.N l.i)
