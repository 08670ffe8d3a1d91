-- `choose_at` meets its contract: each way out by what `first_taken` and `choice` ensure.
use mathlib.Core.Path.{sym, ◌∙◌}
use Rattle.paper.proofs.base.Tests.{cond_true, cond_false}
use Rattle.decide_alike.specs.AlikeCoded.{chosen_at}
use Rattle.decide_alike.proofs.InRange.{told_below, mark_some, mark_none}
use Rattle.decide_alike.proofs.Choices.choose_at.Goals as goal

pub returns-then-is_some : goal.returns-then-is_some
unfolding chosen_at
returns-then-is_some c =
    sym (cond_true _ _ _ (told_below _ _ _ _ c.is_some.ensures c.first_taken.ensures ∙ c.if-is_some.true))

pub returns-in-Some : goal.returns-in-Some
unfolding chosen_at
returns-in-Some c =
    sym (mark_some _ _ c.args.chosen.now _ c.choice.ensures c.in-Some.c c.in-Some.is)
    ∙ sym (cond_false _ _ _ (told_below _ _ _ _ c.is_some.ensures c.first_taken.ensures ∙ c.if-is_some.false))

pub returns-in_default : goal.returns-in_default
unfolding chosen_at
returns-in_default c =
    sym (mark_none _ _ c.args.chosen.now _ c.choice.ensures c.in_default.is)
    ∙ sym (cond_false _ _ _ (told_below _ _ _ _ c.is_some.ensures c.first_taken.ensures ∙ c.if-is_some.false))
