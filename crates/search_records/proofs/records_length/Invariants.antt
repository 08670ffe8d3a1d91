-- `records_length` adds up the bytes of the records. The loop's invariant: those added and those of the fields left make the length.
-- A text is no longer than its way, and the buffer has 184 bytes for each slot of it, so a record has at most 2 ^ 57 bytes and the sum fits.
use Prim.Native.Nat.{◌+◌, ◌*◌, ◌^◌, ◌≤◌}
use mathlib.Core.Path.{◌≡◌}
use lib.ListN.{length}
use Rattle.search_records.specs.Records.{way_spelt, value_records}
use Rattle.search_records.proofs.FieldsStanding.{records_from}
use Rattle.search_records.proofs.records_length.Given as goal

abbrev pub invariant-loop-f : goal.invariant-loop-f
invariant-loop-f l =
    (l.total ≤ 2 ^ 57 * l.f)
    × (l.total + length (records_from l.fn.sets (way_spelt l.last.work.now l.last.number) l.f) ≡ length (value_records l.fn.sets (way_spelt l.last.work.now l.last.number)))
