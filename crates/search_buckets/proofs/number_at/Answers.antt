-- `number_at` reads the number in two bytes. Follows from what `number` promises.
use native.Mathlib.Nat.{add-sub_cancel_left}
use native.Mathlib.Omega.{arith}
use mathlib.Core.Path.{◌∙◌}
use lib.ListN.{drop}
use Rattle.search_slots.proofs.numbers.Bytes.{read_whole}
use Rattle.search_slots.specs.Slots.{number_width}
use Rattle.search_buckets.proofs.number_at.Goals as goal

pub returns : goal.returns
returns c =
    let at = c.args.at in
    c.number.ensures
    ∙ rw (add-sub_cancel_left at number_width)
    (read_whole number_width (drop at c.args.bytes.now) (omega arith))
