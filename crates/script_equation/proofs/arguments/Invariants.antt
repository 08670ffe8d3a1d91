-- `arguments` meets its contract. The loop's invariant: the arguments so far were put, and those that are left make up the rest.
use Prim.Native.Nat.{ℕ}
use mathlib.Core.Path.{◌≡◌}
use mathlib.Core.List.{List}
use lib.ListN.{length}
use Rattle.base_editions.specs.Editions.{paper_edition}
use Rattle.base_put.specs.Counted.{Counted}
use Rattle.script_equation.proofs.TokenListing.{PutSoFar}
use Rattle.script_equation.proofs.arguments.Given as goal

abbrev pub invariant-loop-token : goal.invariant-loop-token
invariant-loop-token l =
    (length l.out ≡ length l.initial.out)
    × ((done : List ℕ) × Counted l.initial.out l.out l.at l.end done × PutSoFar (paper_edition l.edition) l.tokens l.token-index l.literal done)
