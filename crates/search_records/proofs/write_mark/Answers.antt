-- `write_mark` stores the three bytes. Follows from `stored_whole`.
use Rattle.search_records.specs.Records.{record_mark}
use Rattle.search_records.proofs.Records.{stored_whole}
use Rattle.search_records.proofs.write_mark.Goals as goal

pub returns : goal.returns
returns c = stored_whole (record_mark c.args.f) c.args.out.now c.requires
