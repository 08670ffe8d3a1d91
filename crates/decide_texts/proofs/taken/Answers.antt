-- `taken` meets its contract. The loop's invariant: the places that take a character so far are gathered.
use native.Mathlib.Omega.{arith}
use mathlib.Core.Path.{◌≡◌}
use lib.ListN.{length-take}
use lib.Seq.{get_or-take}
use Rattle.decide_texts.proofs.TextTurns.{taken_none, taken_more}
use Rattle.decide_texts.proofs.taken.Goals as goal

pub loop-its-init : goal.loop-its-init
loop-its-init c = taken_none c.args.taking.now

pub loop-its-preserved : goal.loop-its-preserved
loop-its-preserved c =
    let l = c.loop-its in
    let a = c.args in
    let its = c.known-r.ensures in
    let item = get_or-take a.n a.taking.now l.its-index 0 (omega (arith, length-take a.n a.taking.now)) in
    rw (l.invariant, its.0, item) (taken_more a.taking.now l.its-index (rw item at its.1))

pub returns : goal.returns
returns c =
    let l = c.loop-its in
    let a = c.args in
    let same : l.its-index ≡ a.n = omega (arith, length-take a.n a.taking.now) in
    rw same at l.invariant
