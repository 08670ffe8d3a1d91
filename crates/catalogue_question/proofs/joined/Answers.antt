-- `joined` meets its contract. The loop's invariant: `f` fields of the second rule are put behind the first's. Assumes nothing.
use native.Mathlib.Numerals.{add-one}
use native.Mathlib.Omega.{arith}
use Rattle.paper.specs.Numbers.{rule_fields}
use Rattle.catalogue_question.proofs.Filled.{fields_more}
use Rattle.catalogue_question.proofs.joined.Goals as goal

pub loop-f-preserved : goal.loop-f-preserved
loop-f-preserved g c = (
  c.loop-f.invariant.0,
  c.loop-f.invariant.1,
  rw (c.loop-f.invariant.2, add-one c.loop-f.f) (fields_more rule_fields c.args.first c.args.second c.index-second-f.result c.loop-f.f (omega (arith, c.loop-f.invariant.0)) (omega (arith, c.loop-f.invariant.1))),
)
