-- `text_length` counts the characters that the steps of the way put before the field. The loop's invariant: those counted and the
-- length of the text at the present slot make the length. The slot's number falls.
use Prim.Native.Nat.{◌+◌, ◌≤◌}
use mathlib.Core.Path.{◌≡◌}
use lib.ListN.{length}
use Rattle.search_records.specs.Records.{way_spelt}
use Rattle.search_records.proofs.slot.Slot.text_length.Given as goal

abbrev pub invariant-loop-i : goal.invariant-loop-i
invariant-loop-i l =
    (l.n + l.i ≤ l.self.number) × (l.n + length (way_spelt l.self.work.now l.i l.f) ≡ length (way_spelt l.self.work.now l.self.number l.f))

abbrev pub decreases-loop-i : goal.decreases-loop-i
decreases-loop-i l = l.i
