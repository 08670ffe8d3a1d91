-- `digits` calls itself for the digits before the last, and the measure is the number of digits that it may put.
use Rattle.print_lines.proofs.+digits.Given as goal

abbrev pub decreases-digits : goal.decreases-digits
decreases-digits l = l.most
