-- `sets_of` reads the masks. The loop's invariant: so many masks are read. Follows from `set_part` and `copied_more`.
use Prim.Native.Nat.{ℕ, ◌<◌}
use native.Mathlib.Omega.{arith}
use mathlib.Core.Path.{◌≡◌, refl, sym}
use mathlib.Core.List.{List, append-nil}
use lib.ListN.{length, get_or, replicate}
use lib.Seq.{take_all}
use Rattle.paper.specs.Lists.{each}
use Rattle.paper.specs.Numbers.{set_fields}
use Rattle.search_slots.specs.Slots.{mask_bytes}
use Rattle.search_slots.proofs.Parts.{copied_more}
use Rattle.search_slots.proofs.Sets.{set_part}
use Rattle.search_slots.proofs.sets_of.Goals as goal

pub loop-i-init : goal.loop-i-init
loop-i-init c ms n e = refl

pub loop-i-preserved : goal.loop-i-preserved
loop-i-preserved c = λ (ms : List ℕ) (n : length ms ≡ set_fields) (e : c.args.from.now ≡ each mask_bytes ms).
    let h : c.loop-i.i < length ms = omega arith in
    rw (c.loop-i.invariant ms n e, c.mask_of.ensures (get_or ms c.loop-i.i 0) (set_part c.loop-i.i ms c.args.from.now h e))
    (copied_more c.loop-i.i ms (replicate set_fields 0) 0 h (sym n))

pub returns : goal.returns
returns c ms n e =
    let k : c.loop-i.i ≡ set_fields = omega arith in
    rw (c.loop-i.invariant ms n e, k, take_all set_fields ms (omega arith)) (append-nil ms)
