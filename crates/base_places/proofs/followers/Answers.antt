-- `followers` meets its contract. The loop's invariant: r holds what may follow some place below i of the set (`gathered`). Where nothing of the
-- set is left from i on, that is all (`gathered_rest`); else the next place of the set is below `places`, and its followers are added
-- (`next_below`, `gathered_next`).
use Prim.Native.Nat.{ℕ, ◌+◌, ◌<◌, ◌/◌, ◌^◌, zero-le}
use native.Mathlib.Omega.{arith}
use native.Mathlib.Nat.{lt_of_le_of_lt}
use mathlib.Core.Path.{◌≡◌, ap, ◌∙◌}
use lib.Bits.{bit_or}
use lib.Count.{trailing_le}
use lib.ListN.{get_or}
use Rattle.base_places.specs.Masks.{places}
use Rattle.base_places.proofs.Gathered.{steps_to_next, gathered, gathered_none, next_below, gathered_next, gathered_rest, gathered_all}
use Rattle.base_places.proofs.followers.Goals.{Else-rest-eq0}
use Rattle.base_places.proofs.followers.Goals as goal

pub loop-i-init : goal.loop-i-init
loop-i-init c = (zero-le, gathered_none c.args.follow.now c.args.set)

pub returns-then-rest-eq0 : goal.returns-then-rest-eq0
returns-then-rest-eq0 c =
    let l = c.loop-i in
    let a = c.args in
    l.invariant.1 ∙ gathered_rest a.follow.now a.set l.i l.invariant.0 c.if-rest-eq0.true ∙ gathered_all a.follow.now a.set

-- the next place of the set is one
in-places : (c : Else-rest-eq0) → c.loop-i.i + steps_to_next c.args.set c.loop-i.i < places
in-places c =
    let s = c.before.before.before in
    let fits : s.args.set < 2 ^ places = s.ranges.set.fits in
    next_below s.args.set c.loop-i.i fits c.if-rest-eq0.false

pub overflow_cast-next : goal.overflow_cast-next
overflow_cast-next c = record { fits = lt_of_le_of_lt (trailing_le places (c.args.set / 2 ^ c.loop-i.i)) (omega arith) }

pub overflow_add-next : goal.overflow_add-next
overflow_add-next c = omega (arith, in-places (goal.at.overflow_add-next c).Else-rest-eq0)

pub offset_bounds-follow-next : goal.offset_bounds-follow-next
offset_bounds-follow-next c = omega (arith, in-places (goal.at.offset_bounds-follow-next c).Else-rest-eq0)

pub bounds-follow-next : goal.bounds-follow-next
bounds-follow-next c = in-places (goal.at.bounds-follow-next c).Else-rest-eq0

pub overflow_add-i : goal.overflow_add-i
overflow_add-i c = omega (arith, in-places (goal.at.overflow_add-i c).Else-rest-eq0)

pub loop-i-smaller : goal.loop-i-smaller
loop-i-smaller c = omega (arith, in-places (goal.at.loop-i-smaller c).Else-rest-eq0)

pub loop-i-preserved : goal.loop-i-preserved
loop-i-preserved c =
    let l = c.loop-i in
    let a = c.args in
    let next = l.i + steps_to_next a.set l.i in
    let j = c.joined-r.ensures in (
      omega (arith, in-places (goal.at.loop-i-preserved c).Else-rest-eq0),
      j.0
          ∙ ap (λ (x : ℕ). bit_or x (get_or a.follow.now next 0)) l.invariant.1
          ∙ gathered_next a.follow.now a.set l.i c.ranges.set.fits c.if-rest-eq0.false j.1,
    )

pub returns : goal.returns
returns c =
    let l = c.loop-i in
    let a = c.args in
    let e : l.i ≡ places = omega arith in
    l.invariant.1 ∙ ap (gathered a.follow.now a.set) e ∙ gathered_all a.follow.now a.set
