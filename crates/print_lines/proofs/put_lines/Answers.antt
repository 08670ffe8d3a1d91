-- `put_lines` meets its contract: it is `put_with`, without the number of a search.
use Rattle.print_lines.specs.Lines.{put_with, put_lines}
use Rattle.print_lines.proofs.put_lines.Goals as goal

pub returns : goal.returns
unfolding put_lines put_with
returns c = c.put_with.ensures
