-- `put_from` meets its contract. The loop's invariant: the fields before f are put (`Going`).
use native.Mathlib.Omega.{arith}
use mathlib.Core.Path.{refl, ◌∙◌}
use Rattle.carry_records.proofs.Records.{going_start, going_on, going_ends}
use Rattle.carry_records.proofs.put_from.Goals as goal

pub loop-f-init : goal.loop-f-init
loop-f-init c = (refl, going_start _ _ _ _ _ _ _)

pub loop-f-preserved : goal.loop-f-preserved
loop-f-preserved c = (
  c.put_field-placed.auto.out ∙ c.loop-f.invariant.0,
  going_on c.loop-f.invariant.1 _ _ _ c.put_field-placed.ensures.put c.put_field-placed.ensures.next,
)

pub returns : goal.returns
returns c =
    going_ends c.loop-f.invariant.1 (omega arith) _ _ c.put_rest.ensures
