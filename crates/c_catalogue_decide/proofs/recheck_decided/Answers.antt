-- `recheck_decided` meets its contract: it hands on what checking again answers. Follows from `CatalogueTelling`.
use mathlib.Core.Path.{ap}
use native.Mathlib.Omega.{arith}
use Rattle.catalogue_numbers.specs.declared.Totals.{Totals}
use Rattle.c_catalogue.proofs.CatalogueTelling.{rechecked_below, rechecked_promised}
use Rattle.c_catalogue_decide.proofs.recheck_decided.Goals as goal

pub overflow_cast-result : goal.overflow_cast-result
overflow_cast-result c =
    let rechecked = c.recheck_decided-rechecked.result in
    record { fits = omega (arith, rechecked_below rechecked, ap (λ (t : Totals). t.number) c.from-totals.ensures) }

pub returns : goal.returns
returns c =
    let p = rechecked_promised c.recheck_decided-rechecked.result c.from-totals.result c.args.told.now c.recheck_decided-rechecked.ensures c.from-totals.ensures c.tell_rechecked.ensures in
    record { number = p.0; told = p.1.0; list = p.1.1.0; work = p.1.1.1 }
