-- `follow_behind` meets its contract. The loop's invariant: the fields below `f` have their own (`Behind`). Assumes nothing.
use native.Mathlib.Omega.{arith}
use mathlib.Core.Path.{◌≡◌, refl}
use borrow.Author.Rules.{rules}
use lib.ListN.{length}
use Rattle.paper.specs.Numbers.{fields}
use Rattle.search_tables.specs.Tables.{follow_of}
use Rattle.search_tables.proofs.Behind.{behind_none, behind_more, behind_all}
use Rattle.search_tables.proofs.follow_behind.Goals as goal

pub loop-f-init : goal.loop-f-init
loop-f-init c =
    let own = c.args.own in
    let all : length own ≡ fields = search rules in
    behind_none follow_of own _ all refl

pub loop-f-preserved : goal.loop-f-preserved
loop-f-preserved c =
    let l = c.loop-f in
    behind_more follow_of _ _ l.parts l.f l.invariant (omega arith) _ refl

pub returns : goal.returns
returns c =
    let l = c.loop-f in
    behind_all follow_of _ _ l.parts l.f l.invariant _ refl (omega arith)
