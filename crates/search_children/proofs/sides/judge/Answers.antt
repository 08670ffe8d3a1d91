-- `sides::judge` meets its contract: where both sides have room the situation is made of them as they are.
use mathlib.Core.Path.{sym, ◌∙◌}
use Rattle.search_children.proofs.ChildJudged.{judged_made}
use Rattle.search_children.proofs.sides.judge.Goals as goal

pub returns-else-t-gt-LONGEST_SIDE-2 : goal.returns-else-t-gt-LONGEST_SIDE-2
returns-else-t-gt-LONGEST_SIDE-2 c l r e =
    let few = c.if-t-gt-LONGEST_SIDE-2.false in
    judged_made c.args.t l r c.args.sets e (sym (c.is_dead.ensures l r e) ∙ c.if-is_dead.false) few.0 few.1
