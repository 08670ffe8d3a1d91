-- `within` meets its contract, by its tests.
use native.Mathlib.Omega.{arith}
use mathlib.Core.Path.{sym, ap, ◌∙◌}
use lib.Dec.{leb}
use Rattle.decide_letters.proofs.Ranges.{any_below, any_at_most}
use Rattle.decide_letters.proofs.weights.within.Goals as goal

pub returns-then-a-wide : goal.returns-then-a-wide
returns-then-a-wide c = let a = c.args in sym (any_below a.a a.lo a.hi (omega (arith, c.wide.ensures, c.if-a-wide.true)))

pub returns : goal.returns
returns c =
    let a = c.args in
    ap (leb a.a) c.wide-2.ensures ∙ sym (any_at_most a.a a.lo a.hi (omega (arith, c.wide.ensures, c.if-a-wide.false)))
