-- `program_part` meets its contract: the part of a longer input, or all of it. Follows from `take_min`.
use Rattle.paper.specs.Numbers.{program_input}
use Rattle.print_lines.proofs.Walked.{take_min}
use Rattle.print_clash.proofs.program_part.Goals as goal

pub returns : goal.returns
returns c = rw c.min.ensures (take_min program_input c.args.input.now)
