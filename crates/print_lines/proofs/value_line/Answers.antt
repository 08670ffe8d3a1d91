-- `value_line` meets its contract: field number and space, the signs of the text, the line's end. Follows from `value_line_parts` and
-- `puts_then`.
use Prim.Native.Nat.{◌+◌, ◌≤◌}
use native.Mathlib.Omega.{arith}
use lib.ListN.{length-append, length-map}
use Rattle.paper.specs.Printed.{sign}
use Rattle.base_editions.specs.Editions.{paper_edition}
use Rattle.paper_print.specs.TextLines.{printed_values}
use Rattle.print_signs.proofs.CharacterByCharacter.{values_length}
use Rattle.print_lines.proofs.Decimal.{byte_at_most}
use Rattle.print_lines.proofs.Putting.{puts_then}
use Rattle.print_lines.proofs.Walked.{value_line_parts}
use Rattle.print_lines.proofs.value_line.Goals.{After-number_and-behind_field}
use Rattle.print_lines.proofs.value_line.Goals as goal

pub number_and-behind_field-requires : goal.number_and-behind_field-requires
number_and-behind_field-requires c =
    omega (arith, byte_at_most c.args.field c.ranges.field.fits, c.requires)

-- the place behind the field number and its space
behind-field : (c : After-number_and-behind_field) → c.number_and-behind_field.result ≤ c.args.at + 4
behind-field c =
    omega (arith, byte_at_most c.args.field c.ranges.field.fits, simp length-append at c.number_and-behind_field.ensures.behind)

pub spell-behind_text-requires : goal.spell-behind_text-requires
spell-behind_text-requires c =
    omega (arith, behind-field (goal.at.spell-behind_text-requires c).After-number_and-behind_field, c.requires, c.number_and-behind_field.auto.out)

pub put-requires : goal.put-requires
put-requires c =
    let e = paper_edition c.args.edition in
    omega (
      arith,
      behind-field (goal.at.put-requires c).After-number_and-behind_field,
      c.requires,
      c.number_and-behind_field.auto.out,
      rw (length-map (printed_values e c.args.text.now) sign) at c.spell-behind_text.ensures.behind,
      values_length e c.args.text.now,
      c.spell-behind_text.auto.out,
    )

pub returns : goal.returns
returns c =
    let args = c.args in
    rw (value_line_parts (paper_edition args.edition) args.field args.text.now)
    (puts_then (puts_then c.number_and-behind_field.ensures c.spell-behind_text.ensures) c.put.ensures)
