-- `put_number` writes the bytes of a number. The loop's invariant: so many are written, and the others are those of the rest.
-- Follows from `one_more_byte`.
use Prim.Native.Nat.{◌-◌}
use mathlib.Core.Path.{◌≡◌}
use mathlib.Core.List.{◌++◌}
use lib.ListN.{length, take}
use Rattle.search_slots.specs.LowFirst.{low_bytes}
use Rattle.search_slots.proofs.numbers.put_number.Given as goal

abbrev pub invariant-loop-byte : goal.invariant-loop-byte
invariant-loop-byte l =
    (length l.to ≡ length l.initial.to) × (low_bytes (length l.initial.to) l.number ≡ take l.byte-index l.to ++ low_bytes (length l.initial.to - l.byte-index) l.rest)
