-- `is_finished` tells by a key whether its situation is finished. Follows from `finished_by`.
use mathlib.Core.Path.{ap, sym, ◌∙◌}
use lib.ListN.{length, get_or}
use Rattle.paper.proofs.base.Tests.{eq_eqb, neq_eqb}
use Rattle.base_codes.specs.Inner.{no_token}
use Rattle.search_slots.proofs.Seen.{finished_by}
use Rattle.search_slots.proofs.Situations.{short_key}
use Rattle.search_slots.proofs.is_finished.Goals as goal

pub returns-then-its-ne-KEY : goal.returns-then-its-ne-KEY
returns-then-its-ne-KEY c k h e = absurd (c.if-its-ne-KEY.true (ap length e ∙ short_key h))

pub returns-then-its : goal.returns-then-its
returns-then-its c k h e =
    let its = c.args.its.now in
    sym (finished_by k h its e ∙ rw (neq_eqb (get_or its 0 0) no_token c.if-its.true))

pub returns : goal.returns
returns c k h e =
    let its = c.args.its.now in
    sym (finished_by k h its e ∙ rw (eq_eqb (get_or its 0 0) no_token c.if-its.false))
