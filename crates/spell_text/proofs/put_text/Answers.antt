-- `put_text` meets its contract. The loop's invariant: the characters so far were spelt.
use native.Mathlib.Omega.{arith}
use mathlib.Core.Path.{refl, ◌∙◌}
use lib.Seq.{take_all}
use Rattle.base_put.proofs.Counting.{counted_none, counted_then}
use Rattle.spell_text.proofs.SpeltWalk.{spelt_next}
use Rattle.spell_text.proofs.put_text.Goals as goal

pub loop-c-init : goal.loop-c-init
loop-c-init c = (refl, counted_none)

pub loop-c-preserved : goal.loop-c-preserved
loop-c-preserved c =
    let text = c.args.text.now in (
      c.put_character-end.auto.out ∙ c.loop-c.invariant.0,
      rw (spelt_next text c.loop-c.c-index (omega arith)) (counted_then c.loop-c.invariant.1 c.put_character-end.ensures),
    )

pub returns : goal.returns
returns c =
    let text = c.args.text.now in
    rw (take_all c.loop-c.c-index text (omega arith)) at c.loop-c.invariant.1
