-- `operator` meets its contract, by its test.
use Rattle.paper.specs.Numbers.{then_code}
use Rattle.paper.proofs.base.Tests.{eq_eqb, neq_eqb}
use Rattle.script_terms.proofs.operator.Goals as goal

pub returns-then-b-eq-THEN_CODE : goal.returns-then-b-eq-THEN_CODE
returns-then-b-eq-THEN_CODE c =
    rw (eq_eqb c.args.b then_code c.if-b-eq-THEN_CODE.true) c.put_all.ensures

pub returns : goal.returns
returns c =
    rw (neq_eqb c.args.b then_code c.if-b-eq-THEN_CODE.false) c.put_all-2.ensures
