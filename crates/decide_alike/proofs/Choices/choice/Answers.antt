-- `choice` meets its contract, by what `first_taken` ensures.
use borrow.Author.Rules.{rules}
use Rattle.decide_alike.specs.AlikeCoded.{choice_coded}
use Rattle.decide_alike.proofs.InRange.{or_first}
use Rattle.decide_alike.proofs.Choices.choice.Goals as goal

pub returns : goal.returns
unfolding choice_coded
returns c = or_first _ _ _ _ _ _ c.first_taken.ensures (λ p. search rules) c.or_else.ensures
