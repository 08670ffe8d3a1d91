-- `leading_to` meets its contract. The loop's invariant: the places below i that lead to the set are gathered.
use native.Mathlib.Omega.{arith}
use mathlib.Core.Path.{◌≡◌, ◌∙◌}
use Rattle.base_places.specs.Masks.{places}
use Rattle.decide_texts.proofs.TextTurns.{leading_none, leading_more, leading_all}
use Rattle.decide_texts.proofs.leading_to.Goals as goal

pub loop-i-init : goal.loop-i-init
loop-i-init c = leading_none c.args.follow.now c.args.set

pub loop-i-preserved : goal.loop-i-preserved
loop-i-preserved c =
    let l = c.loop-i in
    let a = c.args in
    rw (l.invariant, c.place_if-r.ensures) (leading_more a.follow.now a.set l.i)

pub returns : goal.returns
returns c =
    let l = c.loop-i in
    let a = c.args in
    let all : l.i ≡ places = omega arith in
    (rw all at l.invariant) ∙ leading_all a.follow.now a.set
