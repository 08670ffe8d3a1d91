-- `lines_put` meets its contract: the numbers on the first line, a line for each record that was written. Follows from `lines_put`.
use native.Mathlib.Omega.{arith}
use Rattle.base_editions.specs.Editions.{paper_edition}
use Rattle.print_lines.specs.Lines.{longest_line}
use Rattle.print_lines.specs.Writing.{first_line_of}
use Rattle.print_lines.proofs.Making.{lines_put}
use Rattle.print_lines.proofs.Walked.{first_line_length}
use Rattle.print_lines.proofs.lines_put.Goals as goal

pub written_lines-requires : goal.written_lines-requires
written_lines-requires c =
    omega (
      arith,
      c.requires,
      c.first_line-first.auto.out,
      c.first_line-first.ensures.behind,
      first_line_length c.args.told c.args.search,
    )

pub returns : goal.returns
returns c =
    let told = c.args.told in
    lines_put (longest_line c.args.search) (paper_edition c.args.edition) (first_line_of told c.args.search) told.written c.args.answer.now
    (first_line_length told c.args.search)
    c.first_line-first.ensures
    c.written_lines.ensures
    c.requires
