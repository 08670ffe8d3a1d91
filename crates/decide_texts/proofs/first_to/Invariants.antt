-- `first_to` meets its contract. The loop's invariant: the first one is the first of those from c on.
use Prim.Native.Nat.{ℕ, ◌+◌}
use mathlib.Core.Path.{◌≡◌}
use lib.ListN.{get_or}
use Rattle.paper.specs.Lists.{from, keep}
use Rattle.decide_texts.specs.TextsCoded.{leads, first_to}
use Rattle.decide_texts.proofs.first_to.Given as goal

abbrev pub invariant-loop-c : goal.invariant-loop-c
invariant-loop-c l =
    (m : ℕ) → m + l.c ≡ l.n → first_to l.n l.taking l.next l.ends ≡ get_or (keep (leads l.taking l.next l.ends) (from l.c m)) 0 0
