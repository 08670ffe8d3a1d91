-- `put_back` meets its contract. The loop's invariant: the characters so far were put, and what is left is read behind them (`Going`).
use mathlib.Core.Path.{◌≡◌}
use lib.ListN.{length}
use Rattle.spell_back.proofs.BackWalk.{Going}
use Rattle.spell_back.proofs.put_back.Given as goal

abbrev pub invariant-loop-v : goal.invariant-loop-v
invariant-loop-v l = (length l.out ≡ length l.initial.out) × Going l.spelt l.initial.out l.out l.step l.v-index
