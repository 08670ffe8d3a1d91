-- `entered` walks along the links of a bucket. The loop's invariant: where the walk stands. Follows from the laws of the walk.
use Prim.Native.Nat.{ℕ, ◌+◌, ◌-◌, ◌*◌, ◌<◌}
use native.Mathlib.Nat.{add-sub_cancel_left}
use native.Mathlib.Omega.{arith}
use mathlib.Core.Path.{◌≡◌, sym, ◌∙◌}
use mathlib.Core.Bool.{Bool}
use mathlib.Core.List.{List}
use lib.Dec.{eqb}
use lib.ListN.{take, drop}
use lib.Pointwise.{pointwise}
use Rattle.paper.specs.Numbers.{situation_bytes}
use Rattle.base_codes.specs.Coded.{Coded, same_coded}
use Rattle.search_buckets.specs.Buckets.{Sought}
use Rattle.search_slots.specs.Slots.{Slot, slot_at, key_bytes}
use Rattle.search_buckets.proofs.Chained.{walk_begins, walk_ends, walk_goes_on}
use Rattle.search_slots.proofs.Seen.{slot_is}
use Rattle.search_slots.proofs.Compared.{pointwise_is}
use Rattle.search_buckets.proofs.entered.Goals as goal

-- the slot i is compared with the key, as the code's range has it
slot_met : {work bytes : List ℕ} {n first : ℕ} {k : Coded} {ss : List Slot} (i : ℕ) (r : Bool) → Sought work bytes n first k ss → i < n
    → r ≡ pointwise eqb (take (situation_bytes * i + key_bytes - situation_bytes * i) (drop (situation_bytes * i) work)) bytes
    → same_coded (slot_at ss i).at k ≡ r
slot_met {k = k} i r q b e =
    sym (slot_is q.kept.holds i (omega (arith, q.many)) k q.short)
    ∙ sym (e ∙ rw (add-sub_cancel_left (situation_bytes * i) key_bytes, q.is_key, pointwise_is))

pub loop-next-init : goal.loop-next-init
loop-next-init c = (omega arith, omega arith, λ k ss q. walk_begins q)

pub returns-then-next-eq0 : goal.returns-then-next-eq0
returns-then-next-eq0 c k ss q =
    walk_ends q (c.loop-next.invariant.2 k ss q) (λ _. c.if-next-eq0.true) c.loop-next.invariant.1

pub returns-then-eq : goal.returns-then-eq
returns-then-eq c k ss q =
    let i = c.loop-next.next - 1 in
    let args = c.args in
    let b : i < args.n = omega (arith, c.loop-next.invariant.0) in
    (omega (arith, q.many), slot_met (c.loop-next.next - 1) c.eq.result q b c.eq.ensures ∙ c.if-eq.true)

pub loop-next-preserved : goal.loop-next-preserved
loop-next-preserved c =
    let i = c.loop-next.next - 1 in
    let args = c.args in
    let b : i < args.n = omega (arith, c.loop-next.invariant.0) in (
      omega arith,
      omega arith,
      λ k ss q. walk_goes_on q (c.loop-next.invariant.2 k ss q) i c.number_at-next.result (omega arith) (omega arith) b
          (slot_met i c.eq.result q b c.eq.ensures ∙ c.if-eq.false) c.number_at-next.ensures,
    )

pub returns : goal.returns
returns c k ss q =
    walk_ends q (c.loop-next.invariant.2 k ss q) (λ (b : c.loop-next.next < c.loop-next.above). absurd (omega arith)) c.loop-next.invariant.1
