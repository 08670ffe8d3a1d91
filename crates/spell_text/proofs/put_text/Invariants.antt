-- `put_text` meets its contract. The loop's invariant: the characters so far were spelt.
use mathlib.Core.Path.{◌≡◌}
use lib.ListN.{length, take}
use Rattle.paper_spell.specs.FullAscii.{spelt}
use Rattle.base_put.specs.Counted.{Counted}
use Rattle.spell_text.proofs.put_text.Given as goal

abbrev pub invariant-loop-c : goal.invariant-loop-c
invariant-loop-c l = (length l.out ≡ length l.initial.out) × Counted l.initial.out l.out 0 l.end (spelt (take l.c-index l.text))
