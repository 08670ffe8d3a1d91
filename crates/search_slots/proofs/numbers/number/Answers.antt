-- `number` reads the number of some bytes. Follows from `bytes_read`.
use mathlib.Core.Path.{◌∙◌}
use Rattle.search_slots.proofs.numbers.Bytes.{bytes_read}
use Rattle.search_slots.proofs.numbers.number.Goals as goal

pub returns : goal.returns
returns c =
    c.from_le_bytes.ensures ∙ bytes_read c.min-n.result c.args.from.now c.copy_from_slice.new.self c.min-n.ensures c.copy_from_slice.ensures.after
