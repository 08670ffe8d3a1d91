-- `when_holds` meets its contract: the code's digit is the definition's, and a number of 64 bits has none behind the last place.
use borrow.Author.Rules.{rules}
use mathlib.Core.Path.{sym}
use mir.Syntax.{w64}
use mir.Val.{Fits}
use Rattle.paper.proofs.base.Tests.{cond_true, cond_false, eq_eqb, neq_eqb}
use Rattle.base_places.specs.Masks.{places, in_mask}
use Rattle.base_places.proofs.MaskOf.{in_mask_out}
use Rattle.base_places.proofs.when_holds.Goals as goal

pub returns-then-i-ge-PLACES : goal.returns-then-i-ge-PLACES
returns-then-i-ge-PLACES c =
    let a = c.args in
    let fits : Fits w64 a.set = search rules in
    sym (cond_false (in_mask a.set a.i) a.other 0 (in_mask_out places a.set a.i fits.fits c.if-i-ge-PLACES.true))

pub returns-then-set-i-eq1 : goal.returns-then-set-i-eq1
unfolding in_mask
returns-then-set-i-eq1 c =
    let a = c.args in
    sym (cond_true (in_mask a.set a.i) a.other 0 (eq_eqb _ 1 c.if-set-i-eq1.true))

pub returns-else-set-i-eq1 : goal.returns-else-set-i-eq1
unfolding in_mask
returns-else-set-i-eq1 c =
    let a = c.args in
    sym (cond_false (in_mask a.set a.i) a.other 0 (neq_eqb _ 1 c.if-set-i-eq1.false))
