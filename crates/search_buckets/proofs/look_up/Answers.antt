-- `look_up` says which slot holds a situation. Follows from `sought`.
use native.Mathlib.Omega.{arith}
use mathlib.Core.Path.{ap, ◌∙◌}
use lib.ListN.{length}
use Rattle.search_slots.proofs.Situations.{short_key}
use Rattle.search_buckets.proofs.Chained.{sought}
use Rattle.search_buckets.proofs.look_up.Goals as goal

pub returns-then-slots-n : goal.returns-then-slots-n
returns-then-slots-n c k ss room e g s h n = absurd (omega (arith, c.if-slots-n.true, c.slots_in-slots.ensures, h.holds.fits, n))

pub returns-then-slots-b : goal.returns-then-slots-b
returns-then-slots-b c k ss room e g s h n = absurd (omega (arith, c.if-slots-b.true, c.slots_in-slots.ensures))

pub returns-then-its-ne-KEY : goal.returns-then-its-ne-KEY
returns-then-its-ne-KEY c k ss room e g s h n = absurd (c.if-its-ne-KEY.true (ap length e ∙ short_key s))

pub returns : goal.returns
returns c k ss room e g s h n =
    c.entered.ensures k ss
    (sought h k c.args.its.now c.args.n c.args.b c.number_at-newest.result e g s n room c.number_at-newest.ensures)
