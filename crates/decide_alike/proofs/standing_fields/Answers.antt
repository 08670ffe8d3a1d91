-- `standing_fields` meets its contract, by what each call tells.
use Prim.Native.Nat.{ℕ, ◌+◌}
use mathlib.Core.Bool.{false}
use mathlib.Core.List.{◌++◌}
use borrow.Author.Rules.{rules}
use borrow.Author.Tests.{tests}
use Rattle.paper.specs.Lists.{member}
use Rattle.paper.specs.Numbers.{set_fields}
use Rattle.base_codes.specs.Inner.{field_code, tokens}
use Rattle.decide_alike.specs.AlikeCoded.{standing_coded}
use Rattle.decide_alike.proofs.FromFn.{from_fn_listed}
use Rattle.decide_alike.proofs.standing_fields.Goals as goal

pub returns : goal.returns
unfolding standing_coded
returns c =
    let a = c.args in
    from_fn_listed _ (λ (x : ℕ). member (field_code + x) (tokens a.left ++ tokens a.right)) _ _ set_fields false (λ k y q h r. search (rules, tests)) c.from_fn.ensures.items
