-- `put_origin` stores parent and step. Follows from `origin_stored`.
use Prim.Native.Nat.{ℕ, ◌-◌}
use native.Mathlib.Omega.{arith}
use mathlib.Core.Path.{◌≡◌, ◌∙◌}
use mathlib.Core.List.{List}
use lib.ListN.{length, take}
use lib.Seq.{length-take-le}
use Rattle.search_slots.specs.Slots.{number_width, origin_width}
use Rattle.search_slots.proofs.numbers.Bytes.{low_bytes_all}
use Rattle.search_slots.proofs.Keys.{origin_stored}
use borrow.Author.Rules.{rules}
use Rattle.search_slots.proofs.put_origin.Goals as goal

two : (to : List ℕ) → length to ≡ origin_width → length (take number_width to) ≡ number_width
two to e = length-take-le number_width to (omega arith)

pub returns : goal.returns
returns c =
    origin_stored c.args.parent c.args.step c.args.to.now c.put_number.new.to c.requires
    (c.put_number.ensures ∙ rw (two c.args.to.now c.requires) (low_bytes_all (number_width - 1) c.args.parent (search rules)))
