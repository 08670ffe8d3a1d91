-- `lesser` meets its contract: it is the lesser of the two.
use native.Mathlib.Omega.{arith}
use mathlib.Core.Path.{◌≡◌}
use lib.Dec.{ltb}
use Rattle.std.proofs.Common.{rules, min}
use Rattle.paper.proofs.base.Tests.{by_bool, ltb_true, ltb_false}
use Rattle.decide_letters.proofs.weights.lesser.Goals as goal

pub returns : goal.returns
returns c =
    let a = c.args.a in
    let b = c.args.b in
    let m : c.min.result ≡ min a b = search rules in
    by_bool (ltb b a)
    (λ e. let k = ltb_true b a e in rw e (omega arith))
    (λ e. let k = ltb_false b a e in rw e (omega arith))
