-- `add_decided` meets its contract: it hands on what the catalogue answers. Follows from `DecidedTelling`.
use mathlib.Core.Path.{ap}
use native.Mathlib.Omega.{arith}
use Rattle.catalogue_numbers.specs.declared.Numbers.{Numbers}
use Rattle.c_catalogue.proofs.CatalogueTelling.{added_below}
use Rattle.c_catalogue_decide.proofs.DecidedTelling.{decided_promised}
use Rattle.c_catalogue_decide.proofs.add_decided.Goals as goal

pub overflow_cast-result : goal.overflow_cast-result
overflow_cast-result c =
    let added = c.add_decided-added.result in
    record { fits = omega (arith, added_below added, ap (λ (n : Numbers). n.number) c.from-numbers.ensures) }

pub returns : goal.returns
returns c =
    let p = decided_promised c.add_decided-added.result c.from-numbers.result c.args.told.now c.add_decided-added.ensures c.from-numbers.ensures c.tell_added.ensures c.put.ensures in
    record { number = p.0; told = p.1.0; catalogue = p.1.1.0; work = p.1.1.1 }
