-- `three_numbers` meets its contract: three numbers of at most 20 digits, a sign behind each. Follows from `puts_then`.
use Prim.Native.Nat.{◌≤◌}
use native.Mathlib.Omega.{arith}
use Rattle.paper.specs.Printed.{blank_sign}
use Rattle.print_lines.proofs.Decimal.{decimal_at_most}
use Rattle.print_lines.proofs.Putting.{puts_then}
use Rattle.print_lines.proofs.Walked.{number_length}
use Rattle.print_lines.proofs.three_numbers.Goals.{After-number_and-behind_count, After-number_and-behind_number}
use Rattle.print_lines.proofs.three_numbers.Goals as goal

pub number_and-behind_number-requires : goal.number_and-behind_number-requires
number_and-behind_number-requires c = omega (arith, decimal_at_most c.args.number, c.requires)

-- the places behind the first number and behind the second
behind-number : (c : After-number_and-behind_number) → c.number_and-behind_number.result ≤ 21
behind-number c = omega (arith, c.number_and-behind_number.ensures.behind, number_length c.args.number blank_sign)

behind-count : (c : After-number_and-behind_count) → c.number_and-behind_count.result ≤ 42
behind-count c =
    omega (
      arith,
      c.number_and-behind_number.ensures.behind,
      number_length c.args.number blank_sign,
      c.number_and-behind_count.ensures.behind,
      number_length c.args.count blank_sign,
    )

pub number_and-behind_count-requires : goal.number_and-behind_count-requires
number_and-behind_count-requires c =
    omega (arith, decimal_at_most c.args.count, c.requires, behind-number (goal.at.number_and-behind_count-requires c).After-number_and-behind_number, c.number_and-behind_number.auto.out)

pub number_and-requires : goal.number_and-requires
number_and-requires c =
    omega (
      arith,
      decimal_at_most c.args.place,
      c.requires,
      behind-count (goal.at.number_and-requires c).After-number_and-behind_count,
      c.number_and-behind_number.auto.out,
      c.number_and-behind_count.auto.out,
    )

pub returns : goal.returns
returns c =
    puts_then (puts_then c.number_and-behind_number.ensures c.number_and-behind_count.ensures) c.number_and.ensures
