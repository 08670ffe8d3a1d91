-- `any_foreign` meets its contract: what the iterator looks for is what the definition does. Assumes nothing.
use Rattle.std.proofs.Common.{◌≡◌, ℕ, Bool, ◌||◌, List, [], ◌∷◌, refl, ap, ◌∙◌, rules}
use Rattle.std.proofs.Common.{tests}
use Rattle.std.proofs.lemmas.Iterator.{YieldsList-from_slice}
use Rattle.std.proofs.lemmas.Iterator.Search.{any_from_yields_List}
use Rattle.std.specs.List.{list_any}
use Rattle.paper.specs.Lists.{any}
use Rattle.read_rule.specs.RuleRead.{foreign_code}
use Rattle.read_rule.proofs.any_foreign.Goals as goal

any_listed : (l : List ℕ) → list_any foreign_code l ≡ any foreign_code l
any_listed [] = refl
any_listed (b ∷ l) = ap (λ (x : Bool). foreign_code b || x) (any_listed l)

pub returns : goal.returns
returns c =
    let side = c.args.side.now in
    any_from_yields_List foreign_code _ _ c.any.result c.any.ensures.ran (YieldsList-from_slice side c.iter.ensures.rest) (λ x b q k. search (rules, tests))
    ∙ any_listed side
