-- `write_text` stores the characters that the steps of the way put before the field, the last one first. The loop's invariant: the text
-- at the present slot and what is stored already make the text; its length is the place. The slot's number falls.
use Prim.Native.Nat.{◌≤◌}
use mathlib.Core.Path.{◌≡◌}
use mathlib.Core.List.{◌++◌}
use lib.ListN.{length, drop}
use Rattle.search_records.specs.Records.{way_spelt}
use Rattle.search_records.proofs.slot.Slot.write_text.Given as goal

abbrev pub invariant-loop-i : goal.invariant-loop-i
invariant-loop-i l =
    (l.i ≤ l.self.number)
    × (length l.out ≡ length l.initial.out)
    × (l.at ≤ length l.out)
    × (l.at ≡ length (way_spelt l.self.work.now l.i l.f))
    × (way_spelt l.self.work.now l.i l.f ++ drop l.at l.out ≡ way_spelt l.self.work.now l.self.number l.f)

abbrev pub decreases-loop-i : goal.decreases-loop-i
decreases-loop-i l = l.i
