-- `standings` meets its contract. The loop's invariant: the tokens so far are counted, and those of what is left are not.
use native.Mathlib.Omega.{arith}
use mathlib.Core.Path.{◌≡◌}
use lib.ListN.{length, get_or}
use borrow.Author.Rules.{rules}
use Rattle.paper.specs.Numbers.{longest_side}
use Rattle.paper.proofs.base.Tests.{eq_eqb, neq_eqb}
use Rattle.base_codes.specs.Inner.{no_token}
use Rattle.plain_count.proofs.Walked.{side_ends, side_next, side_end}
use Rattle.plain_count.proofs.standings.Goals as goal

pub returns-then-b : goal.returns-then-b
returns-then-b c =
    let a = c.args in
    let i = c.loop-b.b-index in
    let long : length a.side ≡ longest_side = search rules in
    (omega (arith, side_ends a.places a.side i (omega arith) (eq_eqb (get_or a.side i 0) no_token c.if-b.true)), omega arith)

pub loop-b-preserved : goal.loop-b-preserved
loop-b-preserved c =
    let a = c.args in
    let i = c.loop-b.b-index in
    let long : length a.side ≡ longest_side = search rules in (
      omega arith,
      omega (arith, c.adds-n.ensures, side_next a.places a.side i (omega arith) (neq_eqb (get_or a.side i 0) no_token c.if-b.false)),
    )

pub returns : goal.returns
returns c =
    let a = c.args in
    let long : length a.side ≡ longest_side = search rules in
    (omega (arith, side_end a.places a.side c.loop-b.b-index (omega arith)), omega arith)
