-- `tell_rechecked` meets its contract: the numbers one behind the other.
use Rattle.c_catalogue.proofs.tell_rechecked.Goals as goal

pub returns : goal.returns
returns c =
    rw (c.put-2.ensures, c.put.ensures)
