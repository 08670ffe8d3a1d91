-- `some` meets its contract: whether one is marked.
use native.Mathlib.Omega.{arith}
use mathlib.Core.Path.{◌≡◌, sym, ◌∙◌}
use lib.ListN.{length}
use borrow.Author.Rules.{rules}
use Rattle.paper.specs.Numbers.{most_characters}
use Rattle.paper.proofs.base.Tests.{cond_true, cond_false}
use Rattle.decide_alike.specs.AlikeCoded.{some_coded}
use Rattle.decide_alike.proofs.InRange.{some_marked, is_true}
use Rattle.decide_alike.proofs.some.Goals as goal

pub returns-then-not-contains : goal.returns-then-not-contains
unfolding some_coded
returns-then-not-contains c =
    let a = c.args in
    let long : length a.chosen ≡ most_characters = search rules in
    sym (cond_false _ _ _ (sym (some_marked _ is_true a.chosen a.n (omega arith)) ∙ sym c.contains.ensures.value ∙ c.if-not-contains.true))

pub returns-else-not-contains : goal.returns-else-not-contains
unfolding some_coded
returns-else-not-contains c =
    let a = c.args in
    let long : length a.chosen ≡ most_characters = search rules in
    sym (cond_true _ _ _ (sym (some_marked _ is_true a.chosen a.n (omega arith)) ∙ sym c.contains.ensures.value ∙ c.if-not-contains.false))
