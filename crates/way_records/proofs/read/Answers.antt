-- `read` meets its contract: no spaces are counted where there are no records.
use Rattle.way_records.proofs.read.Goals as goal

pub returns-in_err-spans : goal.returns-in_err-spans
returns-in_err-spans c = rw c.from_residual.ensures (rw c.in_err-spans.was at (c.read_own.ensures.by_index 0))
