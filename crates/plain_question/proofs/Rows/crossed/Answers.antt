-- `crossed` meets its contract: nothing is met, or what `cross` tells of the rows of both tokens. The characters that both may read are from the larger
-- lower bound on to below the smaller upper one.
use native.Mathlib.Omega.{arith}
use Rattle.plain_question.proofs.Entered.{nothing_crossed}
use Rattle.plain_question.proofs.Rows.crossed.Goals as goal

pub returns-then-right_came-eq0 : goal.returns-then-right_came-eq0
returns-then-right_came-eq0 c = nothing_crossed _ _ _ _ c.if-left_came-eq0.true c.if-right_came-eq0.true

pub returns : goal.returns
returns c =
    let hi = c.min-hi.ensures in
    let lo = c.max-lo.ensures in
    record {
      lo = c.max-lo.result;
      hi = c.min-hi.result;
      common =
          record {
            both = λ x a b. (omega (arith, lo), omega (arith, hi), omega (arith, lo), omega (arith, hi));
            each = λ x a b d e. (omega (arith, lo), omega (arith, hi));
          };
      crosses = c.cross.ensures;
    }
