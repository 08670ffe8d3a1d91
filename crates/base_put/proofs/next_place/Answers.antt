-- `next_place` meets its contract, by whether the place is the last.
use native.Mathlib.Omega.{arith}
use mathlib.Core.Path.{◌≡◌}
use lib.Dec.{ltb}
use Rattle.std.proofs.Common.{rules, min, ◌+◌}
use Rattle.paper.proofs.base.Tests.{by_bool, ltb_true, ltb_false}
use Rattle.base_put.specs.Counted.{last_place, next_place}
use Rattle.base_put.proofs.next_place.Goals as goal

pub returns : goal.returns
unfolding next_place
returns c =
    let at = c.args.at in
    let m : c.saturating_add.result ≡ min (at + 1) last_place = search rules in
    by_bool (ltb at last_place)
    (λ e. let k = ltb_true at last_place e in rw e (omega arith))
    (λ e. let k = ltb_false at last_place e in rw e (omega arith))
