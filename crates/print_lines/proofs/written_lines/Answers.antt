-- `written_lines` meets its contract: the part of the answer buffer that was written, or all of it. Follows from `take_min`.
use native.Mathlib.Nat.{sub-zero}
use Rattle.print_lines.proofs.Walked.{take_min}
use Rattle.print_lines.proofs.written_lines.Goals as goal

pub returns : goal.returns
returns c =
    let args = c.args in
    rw (sub-zero, c.min-within.ensures, take_min args.written args.answer.now) at c.value_lines.ensures
