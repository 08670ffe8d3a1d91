-- `read` meets its contract: behind the rule that was read without it, the check on strays decides (`RuleStruct`). Assumes nothing.
use Rattle.std.proofs.Common.{◌<◌, sym, ◌∙◌, arith}
use Rattle.std.proofs.lemmas.Result.{err_from_is_err_and}
use Rattle.paper.specs.Numbers.{fields}
use Rattle.read_rule.proofs.RuleStruct.{fault_alone, stray_first, none_stray}
use Rattle.read_rule.proofs.read.Goals.{In-Some}
use Rattle.read_rule.proofs.read.Goals as goal

pub returns-in_err-lay_alone : goal.returns-in_err-lay_alone
returns-in_err-lay_alone c =
    let p = err_from_is_err_and c.from_residual.result c.from_residual.ensures.1 in
    rw (p.1, p.2) (fault_alone _ _ (sym c.in_err-lay_alone.ensures))

-- the first stray is a field
known : (c : In-Some) → c.in-Some.f < fields
known c = (stray_first c.args.s.now _ (sym c.in_ok-lay_alone.ensures) c.in-Some.f (sym c.first_stray.ensures ∙ c.in-Some.is)).0

pub offset_bounds-rule-f : goal.offset_bounds-rule-f
offset_bounds-rule-f c = omega (arith, known (goal.at.offset_bounds-rule-f c).In-Some)

pub bounds-rule-f : goal.bounds-rule-f
bounds-rule-f c = known (goal.at.bounds-rule-f c).In-Some

pub returns-in-Some : goal.returns-in-Some
returns-in-Some c =
    rw c.mark_of.ensures
    (stray_first c.args.s.now _ (sym c.in_ok-lay_alone.ensures) c.in-Some.f (sym c.first_stray.ensures ∙ c.in-Some.is)).1

pub returns : goal.returns
returns c = none_stray c.args.s.now _ (sym c.in_ok-lay_alone.ensures) (sym c.first_stray.ensures ∙ c.in_default.is)
