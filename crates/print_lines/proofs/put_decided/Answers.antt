-- `put_decided` meets its contract: it is `put_with`, with the number of a search.
use Rattle.print_lines.specs.Lines.{put_with, put_decided}
use Rattle.print_lines.proofs.put_decided.Goals as goal

pub returns : goal.returns
unfolding put_decided put_with
returns c = c.put_with.ensures
