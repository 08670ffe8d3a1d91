-- `add` meets its contract: it hands on what the catalogue answers. Follows from `CatalogueTelling`.
use mathlib.Core.Path.{ap}
use native.Mathlib.Omega.{arith}
use Rattle.catalogue_numbers.specs.declared.Numbers.{Numbers}
use Rattle.c_catalogue.proofs.CatalogueTelling.{added_below, added_promised}
use Rattle.c_catalogue.proofs.add.Goals as goal

pub overflow_cast-result : goal.overflow_cast-result
overflow_cast-result c =
    let added = c.add-added.result in
    record { fits = omega (arith, added_below added, ap (λ (n : Numbers). n.number) c.from-numbers.ensures) }

pub returns : goal.returns
returns c =
    let p = added_promised c.add-added.result c.from-numbers.result c.args.told.now c.add-added.ensures.added c.from-numbers.ensures c.tell_added.ensures in
    record { number = p.0; told = p.1.0; catalogue = p.1.1.0; work = p.1.1.1 }
