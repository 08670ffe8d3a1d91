-- `entry` meets its contract: the code's table is the definition's, and behind it stands 0.
use native.Mathlib.Omega.{arith}
use mathlib.Core.Path.{sym}
use lib.ListN.{get_or-eq_default}
use borrow.Author.Rules.{rules}
use Rattle.paper_spell.specs.FullAscii.{table}
use Rattle.paper_spell.proofs.Table.{table_length}
use Rattle.spell_table.proofs.entry.Goals as goal

pub returns-then-at-lt256 : goal.returns-then-at-lt256
unfolding table
returns-then-at-lt256 c = search rules

pub returns-else-at-lt256 : goal.returns-else-at-lt256
returns-else-at-lt256 c = sym (get_or-eq_default table 0 (omega (arith, table_length, c.if-at-lt256.false)))
