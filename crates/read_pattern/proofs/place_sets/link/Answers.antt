-- `place_sets::link` meets its contract. The loop adds the linked sets at the places of `last`, one after the other (`Adding`); to the others
-- nothing is added.
use Prim.Native.Nat.{ℕ, ◌+◌, ◌-◌, ◌/◌, ◌^◌, ◌≤◌, ◌<◌}
use native.Mathlib.Nat.{lt_of_le_of_lt}
use native.Mathlib.Omega.{arith}
use mathlib.Core.Path.{◌≡◌, sym, ap, ◌∙◌}
use mathlib.Core.Bool.{Bool, cond}
use lib.Count.{trailing_le}
use Rattle.base_places.specs.Masks.{places, in_mask}
use Rattle.base_places.proofs.Gathered.{steps_to_next, not_between, not_behind, stands_next, next_below}
use Rattle.read_pattern.proofs.Adding.{linked, adding_none, adding_more, adding_to, adding_all, adding_rest}
use Rattle.read_pattern.proofs.place_sets.link.Goals.{Else-rest-eq0}
use Rattle.read_pattern.proofs.place_sets.link.Goals as goal

-- what is added from n on before the next place of `last`, at it, and behind the last one
added_between : (last first n j : ℕ) → n ≤ j → j < n + steps_to_next last n → linked last first j ≡ 0
added_between last first n j h k =
    let e : n + (j - n) ≡ j = omega arith in
    ap (λ (b : Bool). cond b first 0) (ap (in_mask last) (sym e) ∙ not_between last n (j - n) (omega arith))

added_next : (last first n : ℕ) → last < 2 ^ places → (last / 2 ^ n ≡ 0 → ⊥) → first ≡ linked last first (n + steps_to_next last n)
added_next last first n l h = sym (ap (λ (b : Bool). cond b first 0) (stands_next last n l h))

added_behind : (last first n j : ℕ) → last / 2 ^ n ≡ 0 → n ≤ j → linked last first j ≡ 0
added_behind last first n j h k = ap (λ (b : Bool). cond b first 0) (not_behind last n j h k)

pub loop-i-init : goal.loop-i-init
loop-i-init c = let a = c.args in adding_none places (linked a.last a.first) a.follow.now

pub returns-then-rest-eq0 : goal.returns-then-rest-eq0
returns-then-rest-eq0 c =
    let l = c.loop-i in
    let a = c.args in
    adding_rest places (linked a.last a.first) a.follow.now l.follow l.i l.invariant
    (λ (j : ℕ) (k : l.i ≤ j). added_behind a.last a.first l.i j c.if-rest-eq0.true k)

-- the next place of `last` is one
in-places : (c : Else-rest-eq0)
    → c.loop-i.i + steps_to_next c.args.last c.loop-i.i < places
in-places c =
    next_below c.args.last c.loop-i.i c.ranges.last.fits c.if-rest-eq0.false

pub overflow_cast-next : goal.overflow_cast-next
overflow_cast-next c =
    record { fits = lt_of_le_of_lt (trailing_le places (c.args.last / 2 ^ c.loop-i.i)) (omega arith) }

pub overflow_add-next : goal.overflow_add-next
overflow_add-next c = omega (arith, in-places (goal.at.overflow_add-next c).Else-rest-eq0)

pub offset_bounds-follow-next : goal.offset_bounds-follow-next
offset_bounds-follow-next c = omega (arith, in-places (goal.at.offset_bounds-follow-next c).Else-rest-eq0)

pub bounds-follow-next : goal.bounds-follow-next
bounds-follow-next c = in-places (goal.at.bounds-follow-next c).Else-rest-eq0

pub bounds-follow-next-in-loop-i : goal.bounds-follow-next-in-loop-i
bounds-follow-next-in-loop-i c = in-places (goal.at.bounds-follow-next-in-loop-i c).Else-rest-eq0

pub overflow_add-i : goal.overflow_add-i
overflow_add-i c = omega (arith, in-places (goal.at.overflow_add-i c).Else-rest-eq0)

pub loop-i-smaller : goal.loop-i-smaller
loop-i-smaller c = omega (arith, in-places (goal.at.loop-i-smaller c).Else-rest-eq0)

pub loop-i-preserved : goal.loop-i-preserved
loop-i-preserved c =
    let l = c.loop-i in
    let a = c.args in
    let next = l.i + steps_to_next a.last l.i in
    let h = in-places (goal.at.loop-i-preserved c).Else-rest-eq0 in
    adding_more places (linked a.last a.first) a.follow.now l.follow next
    (adding_to places (linked a.last a.first) a.follow.now l.follow l.i next l.invariant (omega arith) (omega (arith, h))
    (λ (j : ℕ) (m : l.i ≤ j) (k : j < next). added_between a.last a.first l.i j m k))
    h
    a.first
    (added_next a.last a.first l.i c.ranges.last.fits c.if-rest-eq0.false)

pub returns : goal.returns
returns c =
    let l = c.loop-i in
    let a = c.args in
    adding_all places (linked a.last a.first) a.follow.now l.follow l.i l.invariant (omega arith)
