-- `first_line` meets its contract: three numbers, the line's end or the number of the search behind them. Follows from `numbers_line_parts` and
-- `decided_line_parts`.
use native.Mathlib.Omega.{arith}
use Rattle.paper.specs.Printed.{blank_sign}
use Rattle.print_lines.proofs.Decimal.{decimal_at_most}
use Rattle.print_lines.proofs.Putting.{puts_then}
use Rattle.print_lines.proofs.Walked.{three_numbers_length, numbers_line_parts, decided_line_parts}
use Rattle.print_lines.proofs.first_line.Goals as goal

pub returns-in-None : goal.returns-in-None
returns-in-None c =
    let told = c.args.told in
    rw (c.in-None.is, numbers_line_parts told.number told.count told.place) c.three_numbers.ensures

pub number_and-requires : goal.number_and-requires
number_and-requires c =
    let told = c.args.told in
    omega (
      arith,
      decimal_at_most c.in-Some.search,
      rw c.in-Some.is at c.requires,
      c.three_numbers-behind_place.auto.out,
      c.three_numbers-behind_place.ensures.behind,
      three_numbers_length told.number told.count told.place blank_sign,
    )

pub returns-in-Some : goal.returns-in-Some
returns-in-Some c =
    let told = c.args.told in
    rw (c.in-Some.is, decided_line_parts told.number told.count told.place c.in-Some.search)
    (puts_then c.three_numbers-behind_place.ensures c.number_and.ensures)
