-- `uses` meets its contract, test by test.
use Rattle.paper.specs.Numbers.{range_code, then_code, or_code, many_code}
use Rattle.paper.proofs.base.Tests.{eq_eqb, neq_eqb}
use Rattle.decide_letters.proofs.pattern.uses.Goals as goal

pub returns-then-c-eq-THEN_CODE : goal.returns-then-c-eq-THEN_CODE
returns-then-c-eq-THEN_CODE c = let b = c.args.c in rw (eq_eqb b then_code c.if-c-eq-THEN_CODE.true)

pub returns-then-c-eq-OR_CODE : goal.returns-then-c-eq-OR_CODE
returns-then-c-eq-OR_CODE c =
    let b = c.args.c in
    rw (neq_eqb b then_code c.if-c-eq-THEN_CODE.false, eq_eqb b or_code c.if-c-eq-OR_CODE.true)

pub returns-then-c-eq-RANGE_CODE : goal.returns-then-c-eq-RANGE_CODE
returns-then-c-eq-RANGE_CODE c =
    let b = c.args.c in
    rw (neq_eqb b then_code c.if-c-eq-THEN_CODE.false, neq_eqb b or_code c.if-c-eq-OR_CODE.false, eq_eqb b range_code c.if-c-eq-RANGE_CODE.true)

pub returns-then-c-eq-MANY_CODE : goal.returns-then-c-eq-MANY_CODE
returns-then-c-eq-MANY_CODE c =
    let b = c.args.c in
    rw (neq_eqb b then_code c.if-c-eq-THEN_CODE.false, neq_eqb b or_code c.if-c-eq-OR_CODE.false, neq_eqb b range_code c.if-c-eq-RANGE_CODE.false, eq_eqb b many_code c.if-c-eq-MANY_CODE.true)

pub returns-else-c-eq-MANY_CODE : goal.returns-else-c-eq-MANY_CODE
returns-else-c-eq-MANY_CODE c =
    let b = c.args.c in
    rw (neq_eqb b then_code c.if-c-eq-THEN_CODE.false, neq_eqb b or_code c.if-c-eq-OR_CODE.false, neq_eqb b range_code c.if-c-eq-RANGE_CODE.false, neq_eqb b many_code c.if-c-eq-MANY_CODE.false)
