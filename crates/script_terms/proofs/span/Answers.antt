-- `span` meets its contract: its parts are put one behind the other.
use Rattle.base_put.proofs.Counting.{counted_then}
use Rattle.script_terms.proofs.span.Goals as goal

pub returns : goal.returns
returns c =
    let both = counted_then (counted_then c.put_all-open.ensures c.character-low.ensures) c.put_all-gap.ensures in
    counted_then (counted_then both c.character-high.ensures) c.put_all.ensures
