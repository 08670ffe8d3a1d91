-- `write_records` lends the answer buffer's rest to the record's writer, for each standing field. The loop's invariant: the records so far
-- stand in front, those of the fields left are missing, the rest is unchanged.
use mathlib.Core.Path.{◌≡◌}
use lib.ListN.{length}
use Rattle.search_records.specs.Records.{way_spelt, value_records}
use Rattle.search_records.proofs.Records.{Underway}
use Rattle.search_records.proofs.FieldsStanding.{records_from}
use Rattle.search_records.proofs.write_records.Given as goal

abbrev pub invariant-loop-f : goal.invariant-loop-f
invariant-loop-f l =
    (length l.answer ≡ length l.initial.answer)
    × Underway (value_records l.fn.sets (way_spelt l.last.work.now l.last.number)) (records_from l.fn.sets (way_spelt l.last.work.now l.last.number) l.f) l.initial.answer l.answer l.at
