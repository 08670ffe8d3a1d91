-- `withdraw` meets its contract: it hands on what the catalogue answers. Follows from `CatalogueTelling`.
use native.Mathlib.Omega.{arith}
use Rattle.c_catalogue.proofs.CatalogueTelling.{withdrawn_below, withdrawn_promised}
use Rattle.c_catalogue.proofs.withdraw.Goals as goal

pub overflow_cast-result : goal.overflow_cast-result
overflow_cast-result c =
    let withdrawn = c.withdraw-withdrawn.result in
    record { fits = omega (arith, withdrawn_below withdrawn, c.withdrawn.ensures) }

pub returns : goal.returns
returns c =
    let p = withdrawn_promised c.withdraw-withdrawn.result c.withdrawn.result c.withdraw-withdrawn.ensures c.withdrawn.ensures in
    record { number = p.0; catalogue = p.1 }
