-- `zeroed_work` meets its contract: 65,520 zeros, by computation.
use mathlib.Core.Path.{refl}
use Rattle.print_clash.specs.ClashPrinted.{no_work}
use Rattle.print_clash.proofs.zeroed_work.Goals as goal

pub returns : goal.returns
unfolding no_work
returns c = refl
