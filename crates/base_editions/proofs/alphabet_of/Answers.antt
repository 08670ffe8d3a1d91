-- `alphabet_of` meets its contract, by its cases. Assumes nothing.
use Rattle.base_editions.proofs.alphabet_of.Goals as goal

pub returns-in-First : goal.returns-in-First
returns-in-First c = rw c.in-First.is

pub returns-in-Second : goal.returns-in-Second
returns-in-Second c = rw c.in-Second.is
