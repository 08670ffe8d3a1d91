-- `lay_alone` meets its contract, from what the front is (`RuleStruct`). Assumes nothing.
use mathlib.Core.Path.{sym, ap}
use Rattle.std.proofs.lemmas.Result.{err_from_is_err_and}
use Rattle.read_rule.specs.RuleRead.{rule_of}
use Rattle.read_rule.proofs.RuleStruct.{fault_before, left_before, rule_before}
use Rattle.read_rule.proofs.lay_alone.Goals as goal

pub returns-in_err-front_into : goal.returns-in_err-front_into
returns-in_err-front_into c =
    let p = err_from_is_err_and c.from_residual.result c.from_residual.ensures.1 in
    rw (p.1, p.2) (fault_before _ _ (sym c.in_err-front_into.ensures))

pub returns-then-rule-s : goal.returns-then-rule-s
returns-then-rule-s c = sym (ap (rule_of _) (left_before _ _ (sym c.in_ok-front_into.ensures) c.if-rule-s.true))

pub returns : goal.returns
returns c = rule_before _ _ (sym c.in_ok-front_into.ensures) c.if-rule-s.false
