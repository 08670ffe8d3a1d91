-- `fixed_ones` meets its contract, by what each call tells.
use Prim.Native.Nat.{ℕ}
use mathlib.Core.Bool.{false, ◌&&◌}
use mathlib.Core.List.{◌++◌}
use lib.Dec.{ltb}
use borrow.Author.Rules.{rules}
use borrow.Author.Tests.{tests}
use Rattle.paper.specs.Lists.{member}
use Rattle.paper.specs.Numbers.{most_characters}
use Rattle.base_codes.specs.Inner.{tokens}
use Rattle.decide_alike.specs.AlikeCoded.{marked_by, fixed_coded}
use Rattle.decide_alike.proofs.FromFn.{from_fn_listed}
use Rattle.decide_alike.proofs.fixed_ones.Goals as goal

pub returns : goal.returns
unfolding fixed_coded marked_by
returns c =
    let a = c.args in
    from_fn_listed _ (λ (x : ℕ). ltb x a.n && member x (tokens a.left ++ tokens a.right)) _ _ most_characters false (λ k y q h r. search (rules, tests)) c.from_fn.ensures.items
