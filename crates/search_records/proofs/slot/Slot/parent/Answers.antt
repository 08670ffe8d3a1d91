-- `parent_of` reads the parent's number. Follows from what `number` promises.
use Prim.Native.Nat.{◌+◌, ◌*◌}
use native.Mathlib.Nat.{add-sub_cancel_left}
use native.Mathlib.Omega.{arith}
use mathlib.Core.Path.{◌∙◌}
use lib.ListN.{drop}
use Rattle.paper.specs.Numbers.{situation_bytes}
use Rattle.search_slots.specs.Slots.{number_width, key_bytes}
use Rattle.search_slots.proofs.numbers.Bytes.{read_whole}
use Rattle.search_records.proofs.slot.Slot.parent.Goals as goal

pub returns : goal.returns
returns c =
    let at = situation_bytes * c.args.self.now.number + key_bytes in
    c.number.ensures
    ∙ rw (add-sub_cancel_left at number_width) (read_whole number_width (drop at c.args.self.now.work.now) (omega arith))
