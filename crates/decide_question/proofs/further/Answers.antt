-- `further` meets its contract. The loop's invariant: what is settled from this attempt on is what was to be settled from the second on (`Going`).
-- Follows from `SettlingSteps`.
use Rattle.decide_question.proofs.SettlingSteps.{going_first, still_zero}
use Rattle.decide_question.proofs.further.Goals as goal

pub loop-attempt-init : goal.loop-attempt-init
loop-attempt-init c =
    going_first _ _ _ _ _ _ _ c.requires.work_value c.requires.entered_le_most_room

pub made-requires : goal.made-requires
made-requires c = still_zero c.loop-attempt.invariant
