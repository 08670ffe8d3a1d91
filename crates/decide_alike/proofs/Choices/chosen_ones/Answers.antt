-- `chosen_ones` meets its contract. The loop's invariant: so far the fields below `f` are walked.
use native.Mathlib.Omega.{arith}
use mathlib.Core.Path.{◌≡◌, sym, ap, ◌∙◌}
use mathlib.Core.List.{[]}
use lib.ListN.{get_or}
use Rattle.paper.specs.Numbers.{set_fields}
use Rattle.paper.proofs.base.Tests.{cond_true, cond_false}
use Rattle.decide_alike.specs.AlikeCoded.{chosen_within, chosen_of, chosen_coded}
use Rattle.decide_alike.proofs.AlikeTurns.{no_step, step_more}
use Rattle.decide_alike.proofs.Choices.chosen_ones.Goals.{then-standing-f, else-standing-f}
use Rattle.decide_alike.proofs.Choices.chosen_ones.Goals as goal

pub loop-f-init : goal.loop-f-init
loop-f-init c = sym (no_step _ _)

pub loop-f-preserved : goal.loop-f-preserved
unfolding chosen_of
loop-f-preserved c =
    let s = c.args.self.now in
    let l = c.loop-f in
    let step = chosen_of s.many s.free s.least c.args.standing c.args.taking.now in
    elim c.if-standing-f.branch [
      | then-standing-f w ↦
          w.chosen-is ∙ w.choose_within.ensures ∙ ap (chosen_within s.many s.free s.least (get_or c.args.taking.now l.f [])) l.invariant
          ∙ sym (step_more step _ l.f ∙ cond_true _ _ _ w.if-standing-f.true)
      | else-standing-f w ↦ w.chosen-is ∙ l.invariant ∙ sym (step_more step _ l.f ∙ cond_false _ _ _ w.if-standing-f.false)
    ]

pub returns : goal.returns
unfolding chosen_coded
returns c = let e : c.loop-f.f ≡ set_fields = omega arith in rw e at c.loop-f.invariant
