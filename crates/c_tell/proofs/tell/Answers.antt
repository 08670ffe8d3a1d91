-- `tell` meets its contract: three elements, one after the other.
use Rattle.c_tell.proofs.tell.Goals as goal

pub returns : goal.returns
returns c = cc
