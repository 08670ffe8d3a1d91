-- `tell_added` meets its contract: the numbers one behind the other.
use Rattle.c_catalogue.proofs.tell_added.Goals as goal

pub returns : goal.returns
returns c =
    rw (c.put.ensures, c.tell.ensures)
