-- `print_steps` goes from record to record: each has at least a byte, so what is left gets shorter.
use lib.ListN.{length}
use Rattle.steps.proofs.print_steps.Given as goal

abbrev pub decreases-loop-rest : goal.decreases-loop-rest
decreases-loop-rest g l = length l.rest
