-- `least` meets its contract, by what each call tells.
use Prim.Native.Nat.{ℕ}
use mathlib.Core.Bool.{false, ◌&&◌}
use lib.Dec.{ltb}
use borrow.Author.Rules.{rules}
use borrow.Author.Tests.{tests}
use Rattle.paper.specs.Numbers.{most_characters}
use Rattle.decide_alike.specs.AlikeCoded.{marked_by, is_least_coded, least_from}
use Rattle.decide_alike.proofs.FromFn.{from_fn_listed}
use Rattle.decide_alike.proofs.Signs.least.Goals as goal

pub returns : goal.returns
unfolding least_from marked_by
returns c =
    let s = c.args.self.now in
    from_fn_listed _ (λ (x : ℕ). ltb x c.args.n && is_least_coded s.fixed s.standing s.taking.now x) _ _ most_characters false (λ k y q h r. search (rules, tests)) c.from_fn.ensures.items
