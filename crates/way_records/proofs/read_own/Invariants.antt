-- `read_own` meets its contract. The loop's invariant: the texts that were read, and the records of the fields that are still to come (`Reading`).
use Prim.Native.Nat.{ℕ}
use mathlib.Core.Path.{◌≡◌}
use Rattle.std.specs.Prelude.{Some}
use Rattle.paper_way.specs.TextRecords.{texts_from, no_texts_yet}
use Rattle.search_records.specs.Records.{fields_with_sets}
use Rattle.way_records.specs.Spans.{Own, read_on}
use Rattle.way_records.proofs.Reading.{todo_from}
use Rattle.way_records.proofs.read_own.Given as goal

abbrev pub invariant-loop-f : goal.invariant-loop-f
invariant-loop-f l =
    Own l.texts l.s
    × ((x : ℕ) → texts_from l.characters no_texts_yet (fields_with_sets l.sets) l.texts ≡ read_on l.characters x l.texts (Some l.s) (todo_from l.sets l.f))
