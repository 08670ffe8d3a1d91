-- `answer_length` counts the records of a slot that the buffer has. Follows from what `records_length` promises.
use mathlib.Core.Path.{refl}
use Rattle.paper.proofs.base.Tests.{true_false}
use Rattle.search_records.proofs.answer_length.Goals as goal

pub returns-in_default : goal.returns-in_default
returns-in_default c b = absurd (true_false (c.in_default.ensures.there.1 b) refl)

pub returns : goal.returns
returns c b =
    let s = c.in-Some.ensures.slot in
    rw (s.0, s.1) at c.records_length.ensures
