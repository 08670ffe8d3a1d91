-- `with_texts` meets its contract. The loop's invariant: the fields below f are changed (`Changing`).
use Rattle.decide_texts.proofs.FieldsChanged.{Changing}
use Rattle.decide_texts.proofs.with_texts.Given as goal

abbrev pub invariant-loop-f : goal.invariant-loop-f
invariant-loop-f l = Changing l.initial.question l.asked l.question l.f
