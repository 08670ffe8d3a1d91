-- `before_field` meets its contract, by its test.
use Rattle.script_equation.proofs.before_field.Goals as goal

pub returns-then-literal : goal.returns-then-literal
returns-then-literal c =
    rw c.if-literal.true c.put_all.ensures

pub returns : goal.returns
returns c =
    rw c.if-literal.false c.put_all-2.ensures
