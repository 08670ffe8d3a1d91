-- `step_before` reads where the slot comes from. Follows from `stepped` and `began`.
use mathlib.Core.Path.{ap}
use Rattle.search_records.specs.declared.Origin.{Origin}
use Rattle.search_steps.proofs.Steps.{stepped, began}
use Rattle.search_steps.proofs.step_before.Goals as goal

pub returns-then-origin-slot : goal.returns-then-origin-slot
returns-then-origin-slot c =
    let s = c.args.slot.now in
    let e = c.origin-origin.ensures in
    stepped s.work.now s.number _ _ c.requires (ap (λ (o : Origin). o.parent) e) c.if-origin-slot.true (ap (λ (o : Origin). o.step) e)

pub returns : goal.returns
returns c =
    let s = c.args.slot.now in
    let e = c.origin-origin.ensures in
    let p = ap (λ (o : Origin). o.parent) e in
    began s.work.now s.number _ c.requires (rw (← p) c.if-origin-slot.false) (ap (λ (o : Origin). o.step) e)
