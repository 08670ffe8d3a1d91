-- `put` meets its contract: `set` past the end leaves the list as it is.
use mathlib.Core.Path.{sym}
use lib.Seq.{set_out}
use Rattle.c_tell.proofs.put.Goals as goal

pub returns-else-i-told : goal.returns-else-i-told
returns-else-i-told c = sym (set_out _ _ _ c.if-i-told.false)
