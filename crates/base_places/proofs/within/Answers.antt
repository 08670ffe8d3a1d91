-- `within` meets its contract: it is the lesser of the two. Assumes nothing.
use native.Mathlib.Omega.{arith}
use mathlib.Core.Path.{◌≡◌}
use lib.Dec.{leb}
use Rattle.std.proofs.Common.{rules, min}
use Rattle.paper.specs.Numbers.{most_characters}
use Rattle.paper.proofs.base.Tests.{by_bool, leb_true, leb_false}
use Rattle.base_places.specs.Masks.{within}
use Rattle.base_places.proofs.within.Goals as goal

pub returns : goal.returns
unfolding within
returns c =
    let n = c.args.n in
    let m : c.min.result ≡ min n most_characters = search rules in
    by_bool (leb n most_characters)
    (λ e. let k = leb_true n most_characters e in (rw e (omega arith), omega arith))
    (λ e. let k = leb_false n most_characters e in (rw e (omega arith), omega arith))
