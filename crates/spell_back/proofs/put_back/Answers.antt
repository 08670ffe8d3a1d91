-- `put_back` meets its contract. The loop's invariant: the characters so far were put, and what is left is read behind them (`Going`).
use native.Mathlib.Omega.{arith}
use mathlib.Core.Path.{refl, ◌∙◌}
use Rattle.spell_back.proofs.BackWalk.{going_first, going_on, going_stops, going_ends, sign_left}
use Rattle.spell_back.proofs.put_back.Goals as goal

pub loop-v-init : goal.loop-v-init
loop-v-init c = (refl, going_first)

pub returns-in_err-step : goal.returns-in_err-step
returns-in_err-step c = rw c.from_residual.ensures (going_stops c.loop-v.invariant.1 (omega arith) c.in_err-step.ensures)

pub loop-v-preserved : goal.loop-v-preserved
loop-v-preserved c = (
  c.put_value.auto.out ∙ c.loop-v.invariant.0,
  going_on c.loop-v.invariant.1 (omega arith) c.in_ok-step.ensures,
)

pub returns-in-None : goal.returns-in-None
returns-in-None c = going_ends c.loop-v.invariant.1 (omega arith) c.in-None.is

pub returns-in-Some : goal.returns-in-Some
returns-in-Some c = sign_left c.loop-v.invariant.1 (omega arith) c.in-Some.field-0 c.in-Some.is
