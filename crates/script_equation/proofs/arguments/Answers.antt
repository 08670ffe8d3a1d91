-- `arguments` meets its contract. The loop's invariant: the arguments so far were put, and those that are left make up the rest.
use native.Mathlib.Omega.{arith}
use mathlib.Core.Path.{refl, ◌∙◌}
use mathlib.Core.List.{[], ◌++◌, append-nil}
use lib.ListN.{get_or}
use Rattle.base_editions.specs.Editions.{paper_edition}
use Rattle.base_put.proofs.Counting.{counted_none, counted_then}
use Rattle.script_equation.specs.Arguments.{argument}
use Rattle.script_equation.proofs.TokenListing.{one_more_argument, all_put}
use Rattle.script_equation.proofs.arguments.Goals as goal

pub loop-token-init : goal.loop-token-init
loop-token-init c = (refl, ([], counted_none, record { makes = refl }))

pub loop-token-preserved : goal.loop-token-preserved
loop-token-preserved c =
    let tokens = c.args.tokens.now in
    let i = c.loop-token.token-index in
    let e = paper_edition c.args.edition in
    let (done, put, left) = c.loop-token.invariant.1 in (
      c.argument-end.auto.out ∙ c.loop-token.invariant.0,
      (
        done ++ argument e c.loop-token.literal (get_or tokens i 0),
        counted_then put c.argument-end.ensures,
        one_more_argument e tokens i c.loop-token.literal done (omega arith) left,
      ),
    )

pub returns-then-literal : goal.returns-then-literal
returns-then-literal c =
    let (done, put, left) = c.loop-token.invariant.1 in
    rw (all_put (paper_edition c.args.edition) c.args.tokens.now c.loop-token.token-index c.loop-token.literal done (omega arith) left, c.if-literal.true)
    (counted_then put c.put.ensures)

pub returns : goal.returns
returns c =
    let (done, put, left) = c.loop-token.invariant.1 in
    rw (all_put (paper_edition c.args.edition) c.args.tokens.now c.loop-token.token-index c.loop-token.literal done (omega arith) left, c.if-literal.false, append-nil done) put
