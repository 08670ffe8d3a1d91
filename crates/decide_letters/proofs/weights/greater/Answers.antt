-- `greater` meets its contract: it is the greater of the two.
use native.Mathlib.Omega.{arith}
use mathlib.Core.Path.{◌≡◌}
use lib.Dec.{ltb}
use Rattle.std.proofs.Common.{rules, max}
use Rattle.paper.proofs.base.Tests.{by_bool, ltb_true, ltb_false}
use Rattle.decide_letters.proofs.weights.greater.Goals as goal

pub returns : goal.returns
returns c =
    let a = c.args.a in
    let b = c.args.b in
    let m : c.max.result ≡ max a b = search rules in
    by_bool (ltb a b)
    (λ e. let k = ltb_true a b e in rw e (omega arith))
    (λ e. let k = ltb_false a b e in rw e (omega arith))
