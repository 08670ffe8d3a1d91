-- `in_neither` meets its contract: a token of two sides is one of the first, or one of the second (`Counts`). Assumes nothing.
use mathlib.Core.Path.{sym, ap, ◌∙◌}
use mathlib.Core.Bool.{not}
use lib.Dec.{eqb}
use Rattle.paper.proofs.base.Tests.{not_is_true, not_is_false}
use Rattle.base_codes.specs.Inner.{tokens}
use Rattle.base_question.specs.Standings.{count}
use Rattle.base_question.proofs.Counts.{count_left, count_right}
use Rattle.base_question.proofs.Strays.{not_twice}
use Rattle.base_question.proofs.in_neither.Goals as goal

pub returns-else-not-in_side : goal.returns-else-not-in_side
returns-else-not-in_side c =
    let a = c.args in
    ap not c.if-not-in_side.false ∙ sym (count_left a.token (tokens a.left.now) (tokens a.right.now) (not_is_true (sym c.in_side.ensures ∙ c.if-not-in_side.false)))

pub returns-then-not-in_side : goal.returns-then-not-in_side
returns-then-not-in_side c =
    let a = c.args in
    rw (count_right a.token (tokens a.left.now) (tokens a.right.now) (not_is_false (sym c.in_side.ensures ∙ c.if-not-in_side.true)))
    (ap not c.in_side-then-not-in_side.ensures ∙ sym (not_twice (eqb (count a.token (tokens a.right.now)) 0)))
