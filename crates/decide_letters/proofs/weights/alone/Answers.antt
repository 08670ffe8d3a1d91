-- `alone` meets its contract, by how many characters there are.
use native.Mathlib.Omega.{arith}
use mathlib.Core.Path.{sym, ap, ◌∙◌}
use lib.Dec.{eqb}
use Rattle.decide_letters.proofs.Ranges.{all_none, all_more, all_alone}
use Rattle.decide_letters.proofs.weights.alone.Goals as goal

pub returns-then-hi-lo : goal.returns-then-hi-lo
returns-then-hi-lo c = let a = c.args in sym (all_none a.a a.lo a.hi c.if-hi-lo.true)

pub returns-then-lo-hi : goal.returns-then-lo-hi
returns-then-lo-hi c = let a = c.args in sym (all_more a.a a.lo a.hi c.if-lo-hi.true)

pub returns : goal.returns
returns c =
    let a = c.args in
    ap (eqb a.a) c.wide.ensures ∙ sym (all_alone a.a a.lo a.hi (omega (arith, c.if-hi-lo.false, c.if-lo-hi.false)))
