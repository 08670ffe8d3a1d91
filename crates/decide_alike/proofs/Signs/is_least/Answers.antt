-- `is_least` meets its contract: the library's `any` over the smaller ones.
use Prim.Native.Nat.{ℕ}
use native.Mathlib.Omega.{arith}
use mathlib.Core.Path.{refl, ap, ◌∙◌}
use mathlib.Core.Bool.{Bool, not}
use borrow.Author.Rules.{rules}
use borrow.Author.Tests.{tests}
use Rattle.std.proofs.lemmas.Iterator.{YieldsList-from_range}
use Rattle.std.proofs.lemmas.Iterator.Search.{any_from_yields_List}
use Rattle.decide_alike.specs.AlikeCoded.{alike_coded, is_least_coded}
use Rattle.decide_alike.proofs.InRange.{any_range}
use Rattle.decide_alike.proofs.Signs.is_least.Goals as goal

pub returns : goal.returns
unfolding is_least_coded
returns c =
    let s = c.args.self.now in
    let n = c.args.c in
    let test : ℕ → Bool = λ (a : ℕ). alike_coded s.fixed s.standing s.taking.now a n in
    ap not
    (any_from_yields_List test _ _ c.any.result c.any.ensures.ran (YieldsList-from_range 0 n n refl (omega arith)) (λ x b q k. search (rules, tests))
    ∙ any_range test 0 n)
