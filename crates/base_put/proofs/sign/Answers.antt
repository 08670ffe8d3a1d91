-- `sign` meets its contract: the code's table is the definition's, and outside it stands 0.
use mathlib.Core.Path.{◌≡◌}
use lib.ListN.{get_or}
use Rattle.std.proofs.lemmas.Grind.{common_steps}
use native.Mathlib.Omega.{arith}
use Rattle.paper.specs.Printed.{signs}
use Rattle.base_put.proofs.sign.Goals as goal

pub returns : goal.returns
returns c =
    let e : c.unwrap_or.result ≡ get_or signs c.args.value 0 = grind (arith, common_steps) in
    e
