-- `character` meets its contract. The loop's invariant: it is still to be found from c on.
use mathlib.Core.Path.{◌≡◌}
use Rattle.paper_spell.specs.FullAscii as Ascii
use Rattle.spell_table.proofs.Looking.{looked_up}
use Rattle.spell_table.proofs.character.Given as goal

abbrev pub invariant-loop-c : goal.invariant-loop-c
invariant-loop-c l = Ascii.character l.s l.v ≡ looked_up l.s l.v l.c
