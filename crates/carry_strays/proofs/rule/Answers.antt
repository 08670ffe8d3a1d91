-- `rule` meets its contract, by what reading the rule by the old rule tells and by what is written anew (`DropAnswered`).
use Rattle.carry_strays.proofs.DropAnswered.{rule_dropped}
use Rattle.carry_strays.proofs.rule.Goals as goal

pub returns : goal.returns
returns c = let h = rule_dropped _ _ _ c.read_before-read.ensures _ c.rule.ensures in record { whole = h.0; promised = h.1 }
