-- `spell` meets its contract. The loop's invariant: the signs of the text so far were put, at most two for each character. Follows from the laws of bytes put one behind the
-- other.
use Prim.Native.Nat.{◌≤◌}
use native.Mathlib.Omega.{arith}
use mathlib.Core.Path.{refl, ◌∙◌}
use lib.ListN.{length, get_or, length-map}
use lib.Seq.{take_all}
use Rattle.paper.specs.Printed.{sign}
use Rattle.base_editions.specs.Editions.{paper_edition}
use Rattle.print_signs.specs.PrintedCharacter.{values_of_character}
use Rattle.print_signs.proofs.CharacterByCharacter.{character_length}
use Rattle.print_lines.proofs.Putting.{puts_then}
use Rattle.print_lines.proofs.Walked.{first_none, signs_more}
use Rattle.print_lines.proofs.spell.Goals as goal

pub loop-c-init : goal.loop-c-init
loop-c-init c = (refl, omega arith, first_none (paper_edition c.args.edition))

pub loop-c-preserved : goal.loop-c-preserved
loop-c-preserved c =
    let args = c.args in
    let e = paper_edition args.edition in
    let i = c.loop-c.c-index in
    let its = values_of_character e (get_or args.text.now i 0) in (
      c.character-end.auto.out ∙ c.loop-c.invariant.0,
      omega (arith, rw (length-map its sign) at c.character-end.ensures.behind, character_length e (get_or args.text.now i 0)),
      rw (signs_more e args.text.now i (omega arith)) (puts_then c.loop-c.invariant.2 c.character-end.ensures),
    )

pub returns : goal.returns
returns c =
    let all : length c.args.text.now ≤ c.loop-c.c-index = omega arith in
    rw (take_all c.loop-c.c-index c.args.text.now all) at c.loop-c.invariant.2
