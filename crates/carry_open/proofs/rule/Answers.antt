-- `rule` meets its contract, by what reading the rule tells and by what is written anew (`CarryAnswered`).
use Rattle.carry_open.proofs.CarryAnswered.{rule_carried}
use Rattle.carry_open.proofs.rule.Goals as goal

pub returns : goal.returns
returns c = let h = rule_carried _ _ _ c.read-read.ensures _ c.rule.ensures in record { whole = h.0; promised = h.1 }
