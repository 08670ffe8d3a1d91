-- `weight` meets its contract, by its test.
use native.Mathlib.Omega.{arith}
use mathlib.Core.Path.{ap, ◌∙◌}
use Rattle.paper.proofs.base.Tests.{le_ltb, lt_ltb}
use Rattle.paper_decide.specs.Letters.{one_if}
use Rattle.base_codes.specs.Inner.{field_code}
use Rattle.decide_letters.proofs.sides.weight.Goals as goal

pub returns-then-b-ge-FIELD_CODE : goal.returns-then-b-ge-FIELD_CODE
returns-then-b-ge-FIELD_CODE c = let a = c.args in (omega arith, rw (le_ltb a.b field_code c.if-b-ge-FIELD_CODE.true))

pub returns : goal.returns
returns c =
    let a = c.args in
    (c.one_if.ensures.0, rw (lt_ltb a.b field_code c.if-b-ge-FIELD_CODE.false) (c.one_if.ensures.1 ∙ ap one_if c.counts.ensures))
