-- `field_lines` meets its contract: its parts are put one behind the other.
use Rattle.base_put.proofs.Counting.{counted_then}
use Rattle.paper_script.specs.Script.{field_lines}
use Rattle.script_sheet.proofs.memberships.field_lines.Goals as goal

pub returns : goal.returns
unfolding field_lines
returns c = λ q e b.
    counted_then
    (counted_then
    (counted_then (counted_then (counted_then c.put_all-comment.ensures c.digit_and-declared.ensures) c.digit_and-asserted.ensures) c.digit_and-named.ensures)
    (c.held-behind.ensures q e b))
    c.put_all.ensures
