-- `first_masks` meets its contract: each field has its own mask. Follows from `FirstSets`.
use mathlib.Core.List.{◌++◌}
use borrow.Author.Rules.{rules}
use Rattle.paper.specs.Numbers.{set_fields}
use Rattle.search_trim.specs.Trimming.{first_mask}
use Rattle.search_trim.proofs.FirstSets.{made_of_each, each_first}
use Rattle.search_trim.proofs.first_masks.Goals as goal

pub returns : goal.returns
returns c =
    let tokens = c.args.l.now ++ c.args.r.now in
    let items = c.from_fn.ensures.items in
    each_first tokens c.from_fn.result items.long
    (made_of_each _ _ (first_mask tokens) (λ f m q k. search rules) c.from_fn.result set_fields items)
