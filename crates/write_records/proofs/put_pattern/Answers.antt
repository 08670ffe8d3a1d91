-- `put_pattern` meets its contract: its parts are put one behind the other.
use Rattle.base_put.proofs.Counting.{counted_then}
use Rattle.write_records.proofs.put_pattern.Goals as goal

pub returns : goal.returns
returns c =
    counted_then (counted_then (counted_then c.put_all-marked.ensures c.put-named.ensures) c.put-measured.ensures) c.put_all.ensures
