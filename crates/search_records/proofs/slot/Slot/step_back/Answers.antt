-- `step_back` reads the parent, the step and the parent's fronts. Follows from `stepped` and `ended`.
use native.Mathlib.Omega.{arith}
use mathlib.Core.Path.{◌≡◌}
use Rattle.search_records.proofs.Text.{stepped, ended}
use Rattle.search_records.proofs.slot.Slot.step_back.Goals as goal

pub returns-then-self-parent : goal.returns-then-self-parent
returns-then-self-parent c =
    ended c.args.self.now.work.now c.args.f c.args.self.now.number c.requires.nonzero (rw (← c.parent-parent.ensures) c.if-self-parent.true)

pub returns : goal.returns
returns c =
    let s = c.args.self.now in
    let same : c.earlier.result.number ≡ c.parent-parent.result = omega (arith, c.earlier.ensures.1, c.if-self-parent.false) in
    stepped s.work.now c.args.f s.number c.requires.nonzero c.parent-parent.result c.step-step.result
    c.puts_before.result c.then_some-put.result c.parent-parent.ensures (omega (arith, c.if-self-parent.false)) c.step-step.ensures
    (rw (c.earlier.ensures.0, same) at c.puts_before.ensures) c.then_some-put.ensures
