-- `choose_within` meets its contract. The loop's invariant: so far the places below `p` are walked.
use native.Mathlib.Omega.{arith}
use mathlib.Core.Path.{◌≡◌, sym, ap, ◌∙◌}
use Rattle.base_places.specs.Masks.{places}
use Rattle.decide_alike.specs.AlikeCoded.{chosen_at, chosen_within}
use Rattle.decide_alike.proofs.AlikeTurns.{no_step, step_more}
use Rattle.decide_alike.proofs.Choices.choose_within.Goals as goal

pub loop-p-init : goal.loop-p-init
loop-p-init c = sym (no_step _ _)

pub loop-p-preserved : goal.loop-p-preserved
loop-p-preserved c =
    let s = c.args.self.now in
    let step = chosen_at s.many s.free s.least c.args.row.now in
    c.choose_at.ensures ∙ ap (step c.loop-p.p) c.loop-p.invariant ∙ sym (step_more step _ c.loop-p.p)

pub returns : goal.returns
unfolding chosen_within
returns c = let e : c.loop-p.p ≡ places = omega arith in rw e at c.loop-p.invariant
