-- `first_taken` meets its contract: the library's `find` over the characters.
use native.Mathlib.Omega.{arith}
use mathlib.Core.Path.{refl}
use borrow.Author.Rules.{rules}
use borrow.Author.Tests.{tests}
use Rattle.std.proofs.lemmas.Iterator.{YieldsList-from_range}
use Rattle.std.proofs.lemmas.Iterator.Search.{find_from_yields_List}
use Rattle.decide_alike.specs.AlikeCoded.{taken_coded, first_taken}
use Rattle.decide_alike.proofs.InRange.{found}
use Rattle.decide_alike.proofs.first_taken.Goals as goal

pub returns : goal.returns
unfolding first_taken
returns c =
    let a = c.args in
    let test = taken_coded a.among.now a.row.now a.p in
    found test a.n c.find.result
    (find_from_yields_List test _ _ c.find.result c.find.ensures.ran (YieldsList-from_range 0 a.n a.n refl (omega arith)) (λ x b q k. search (rules, tests)))
