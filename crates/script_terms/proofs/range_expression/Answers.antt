-- `range_expression` meets its contract, by its test and the edition.
use Rattle.paper.proofs.base.Tests.{le_leb, lt_leb}
use Rattle.paper_script.specs.Script.{range_expression}
use Rattle.script_terms.proofs.range_expression.Goals as goal

pub returns-then-hi-lo : goal.returns-then-hi-lo
unfolding range_expression
returns-then-hi-lo c =
    let a = c.args in
    rw (le_leb a.hi a.lo c.if-hi-lo.true) c.one_character.ensures

pub returns-in-First : goal.returns-in-First
unfolding range_expression
returns-in-First c =
    let a = c.args in
    rw (lt_leb a.hi a.lo c.if-hi-lo.false, c.in-First.is) c.choice.ensures

pub returns-in-Second : goal.returns-in-Second
unfolding range_expression
returns-in-Second c =
    let a = c.args in
    rw (lt_leb a.hi a.lo c.if-hi-lo.false, c.in-Second.is) c.span.ensures
