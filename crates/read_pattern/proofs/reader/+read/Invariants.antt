-- The measure: the number of bytes left, which falls at each call.
use Rattle.read_pattern.proofs.reader.+read.Given as goal

abbrev pub decreases-read : goal.decreases-read
decreases-read l = l.part.now.left
