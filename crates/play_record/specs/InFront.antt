-- The record in front of bytes, as the code hands it on: the step by its inner code, and how many bytes the record has.
use Rattle.std.specs.Prelude.{Option, None, Some, length}
use Rattle.base_codes.specs.Inner.{move_code}
use Rattle.paper_steps.specs.StepRecords.{step_record, Front, no_record, front}
use Rattle.play_record.specs.declared.Record.{Record}

abbrev pub record_of : Front → Option Record
record_of no_record = None
record_of (front m later) = Some (record { step = move_code m; bytes = length (step_record m) })
