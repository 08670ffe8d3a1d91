-- `zeroed_answer` meets its contract: 4,096 zeros, by computation.
use mathlib.Core.Path.{refl}
use Rattle.print_clash.specs.ClashPrinted.{no_answer}
use Rattle.print_clash.proofs.zeroed_answer.Goals as goal

pub returns : goal.returns
unfolding no_answer
returns c = refl
