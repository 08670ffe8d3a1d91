-- `across` meets its contract. The loop's invariant: the right tokens below `j` have the places at which the next left token comes in front (`Going`).
use native.Mathlib.Omega.{arith}
use mathlib.Core.Path.{sym, ap, ◌∙◌}
use lib.ListN.{take, length-set}
use Rattle.plain_rows.specs.Rows.{front_by}
use Rattle.plain_rows.proofs.Rows.{token_row}
use Rattle.plain_question.specs.Entered.{fronts}
use Rattle.plain_question.proofs.Entered.{crossed_as, going_first, going_more, going_all}
use Rattle.plain_question.proofs.Rows.across.Goals as goal

pub loop-j-init : goal.loop-j-init
loop-j-init c = (c.told-came, λ l i e h. going_first l _ _ i _ _ h)

pub crossed-x-requires : goal.crossed-x-requires
crossed-x-requires c = (c.requires.0, rw c.token_at-token.ensures (token_row _ _))

pub loop-j-preserved : goal.loop-j-preserved
loop-j-preserved c =
    let loop = c.loop-j in
    let a = c.args in
    let token = c.token_at-token in
    let follow = a.self.now.follow.now in
    let taking = a.self.now.taking.now in
    let last = a.self.now.last.now in (
      length-set loop.came loop.j c.crossed-x.result.left ∙ loop.invariant.0,
      λ l i e h.
          going_more l (fronts a.characters follow taking last (take a.n a.right)) a.n i loop.came loop.right_came loop.met loop.j (loop.invariant.1 l i e h) (omega arith) (omega arith) c.crossed-x.result
          (crossed_as _ _ _ (sym e) (ap (front_by follow taking last) token.ensures) c.crossed-x.ensures),
    )

pub returns : goal.returns
returns c =
    let loop = c.loop-j in
    record {
      long = loop.invariant.0;
      entered = λ l i e h. (going_all l _ _ i _ _ _ loop.j (loop.invariant.1 l i e h) (omega arith)).0;
      ends = λ l i e h. (going_all l _ _ i _ _ _ loop.j (loop.invariant.1 l i e h) (omega arith)).1;
    }
