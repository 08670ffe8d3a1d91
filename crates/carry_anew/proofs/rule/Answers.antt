-- `rule` meets its contract, by what is put of it (`AnewAnswered`).
use mathlib.Core.Path.{◌≡◌, subst}
use borrow.Author.Rules.{rules}
use Rattle.std.specs.Prelude.{Err}
use Rattle.carry_anew.specs.Anew.{RuleRead}
use Rattle.carry_anew.specs.declared.RewriteError.TheVariants.{Refused}
use Rattle.carry_anew.proofs.AnewAnswered.{rule_at_fault, rule_foreign, rule_put}
use Rattle.carry_anew.proofs.rule.Goals as goal

pub returns-in_err-read : goal.returns-in_err-read
returns-in_err-read c x h =
    let e : c.from_residual.result ≡ Err (Refused c.in_err-read.field-0.0) = search rules in
    rw e (rule_at_fault _ _ _ x _ (subst (RuleRead _ _ x) c.in_err-read.was h))

pub returns-then-read : goal.returns-then-read
returns-then-read c x h = rule_foreign _ _ _ x _ (subst (RuleRead _ _ x) c.in_ok-read.was h) c.if-read.true

pub returns : goal.returns
returns c x h =
    rule_put _ _ _ x _ (subst (RuleRead _ _ x) c.in_ok-read.was h) c.if-read.false _ c.rule_counts-counts.ensures _ c.write_out.ensures
