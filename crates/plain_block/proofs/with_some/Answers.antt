-- `with_some` meets its contract. The loop's invariant: the places that are not in the rest have been looked at (`Gathering`). The rest falls.
use Prim.Native.Nat.{◌*◌, ◌%◌, ◌^◌, ◌<◌}
use lib.Count.{count_trailing_zeros}
use Rattle.base_places.specs.Masks.{places}
use Rattle.plain_block.proofs.Digits.{lowest_below, mark_is}
use Rattle.plain_block.proofs.WithSome.{gathering_none, gathering_more, gathering_not, gathering_all}
use Rattle.plain_block.proofs.with_some.Goals.{In-loop-rest}
use Rattle.plain_block.proofs.with_some.Goals as goal

pub loop-rest-init : goal.loop-rest-init
loop-rest-init c = let a = c.args in gathering_none a.rows.now a.met a.last c.ranges.met.fits

-- the place that is looked at is one
in-places : (c : In-loop-rest) → count_trailing_zeros places c.loop-rest.rest < places
in-places c = lowest_below c.loop-rest.rest c.loop-rest-test.true c.loop-rest.invariant.narrow

pub bounds-rows-i : goal.bounds-rows-i
bounds-rows-i c = in-places (goal.at.bounds-rows-i c).In-loop-rest

pub overflow_shl-r : goal.overflow_shl-r
overflow_shl-r c = in-places (goal.at.overflow_shl-r c).In-loop-rest

pub loop-rest-preserved-then-rows-i-ne0 : goal.loop-rest-preserved-then-rows-i-ne0
loop-rest-preserved-then-rows-i-ne0 c =
    let l = c.loop-rest in
    let a = c.args in
    let i = count_trailing_zeros places l.rest in
    gathering_more a.rows.now a.met a.last l.r l.rest l.invariant c.loop-rest-test.true c.if-rows-i-ne0.true (1 * 2 ^ i % 2 ^ places)
    (mark_is i (in-places (goal.at.loop-rest-preserved-then-rows-i-ne0 c).In-loop-rest))

pub loop-rest-preserved : goal.loop-rest-preserved
loop-rest-preserved c =
    let l = c.loop-rest in
    let a = c.args in
    gathering_not a.rows.now a.met a.last l.r l.rest l.invariant c.loop-rest-test.true c.if-rows-i-ne0.false

pub returns : goal.returns
returns c =
    let l = c.loop-rest in
    let a = c.args in
    gathering_all a.rows.now a.met a.last l.r l.rest l.invariant c.loop-rest-test.false
