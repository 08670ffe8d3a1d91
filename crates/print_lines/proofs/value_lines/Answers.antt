-- `value_lines` meets its contract. The loop's invariant: the lines of the records passed were put, and they have at most twice as many
-- bytes as those records. Follows from `Walked`.
use Prim.Native.Nat.{◌+◌, ◌≤◌}
use native.Mathlib.Omega.{arith}
use mathlib.Core.Path.{refl, ◌∙◌}
use lib.ListN.{length, get_or}
use Rattle.base_editions.specs.Editions.{paper_edition}
use Rattle.print_lines.specs.Writing.{head_size}
use Rattle.print_lines.proofs.Walked.{none_put, one_put, all_put, text, text_part, text_within, text_long, value_line_length}
use Rattle.print_lines.proofs.value_lines.Goals.{After-text_length}
use Rattle.print_lines.proofs.value_lines.Goals as goal

pub loop-from-init : goal.loop-from-init
loop-from-init c = (omega arith, refl, omega arith, none_put)

-- the text ends in the records
within : (c : After-text_length)
    → c.loop-from.from + head_size + c.text_length.result ≤ length c.args.records.now
within c =
    rw c.text_length.ensures (text_within c.args.records.now c.loop-from.from (omega arith))

pub overflow_add-to : goal.overflow_add-to
overflow_add-to c = record { fits = omega (arith, within (goal.at.overflow_add-to c).After-text_length) }

pub slice_bounds-value_line-end : goal.slice_bounds-value_line-end
slice_bounds-value_line-end c = omega (arith, within (goal.at.slice_bounds-value_line-end c).After-text_length)

pub value_line-end-requires : goal.value_line-end-requires
value_line-end-requires c =
    let args = c.args in
    rw (text_part args.records.now c.loop-from.from c.text_length.result c.text_length.ensures)
    (omega (arith, within (goal.at.value_line-end-requires c).After-text_length, text_long args.records.now c.loop-from.from c.text_length.result c.text_length.ensures))

pub loop-from-preserved : goal.loop-from-preserved
loop-from-preserved c =
    let args = c.args in
    let part = text_part args.records.now c.loop-from.from c.text_length.result c.text_length.ensures in
    let puts = rw part at c.value_line-end.ensures in (
      within (goal.at.loop-from-preserved c).After-text_length,
      c.value_line-end.auto.out ∙ c.loop-from.invariant.1,
      omega (
        arith,
        puts.behind,
        value_line_length (paper_edition args.edition) (get_or args.records.now (c.loop-from.from + 2) 0) (text args.records.now c.loop-from.from) (omega (arith, (c.type_inv.records (c.loop-from.from + 2)).fits)),
        text_long args.records.now c.loop-from.from c.text_length.result c.text_length.ensures,
      ),
      λ n h. rw c.text_length.ensures (one_put (c.loop-from.invariant.3 n h) (omega arith) puts),
    )

pub returns : goal.returns
returns c = record { within = omega arith; lines = λ n h. all_put (c.loop-from.invariant.3 n h) (omega arith) }
