-- `further` meets its contract. The loop's invariant: what is settled from this attempt on is what was to be settled from the second on (`Going`).
-- Follows from `SettlingSteps`.
use Prim.Native.Nat.{◌+◌}
use Rattle.decide_question.proofs.SettlingSteps.{Going}
use Rattle.decide_question.proofs.further.Given as goal

abbrev pub invariant-loop-attempt : goal.invariant-loop-attempt
invariant-loop-attempt l =
    Going l.question l.first l.second l.own l.entered l.initial.work l.initial.answer (l.attempt-index + 2) l.count l.work l.answer
