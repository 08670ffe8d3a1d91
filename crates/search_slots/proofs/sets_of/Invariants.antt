-- `sets_of` reads the masks. The loop's invariant: so many masks are read. Follows from `set_part` and `copied_more`.
use Prim.Native.Nat.{ℕ}
use mathlib.Core.Path.{◌≡◌}
use mathlib.Core.List.{List, ◌++◌}
use lib.ListN.{length, take, drop, replicate}
use Rattle.paper.specs.Lists.{each}
use Rattle.paper.specs.Numbers.{set_fields}
use Rattle.search_slots.specs.Slots.{mask_bytes}
use Rattle.search_slots.proofs.sets_of.Given as goal

abbrev pub invariant-loop-i : goal.invariant-loop-i
invariant-loop-i l =
    (ms : List ℕ) → length ms ≡ set_fields → l.from ≡ each mask_bytes ms → l.set-items ≡ take l.i ms ++ drop l.i (replicate set_fields 0)
