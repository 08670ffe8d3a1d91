-- `free_ones` meets its contract, by what each call tells.
use Prim.Native.Nat.{ℕ}
use mathlib.Core.Path.{◌∙◌}
use mathlib.Core.Bool.{false, ◌&&◌, not, and_assoc}
use lib.Dec.{ltb}
use lib.ListN.{get_or}
use borrow.Author.Rules.{rules}
use borrow.Author.Tests.{tests}
use Rattle.paper.specs.Numbers.{most_characters}
use Rattle.search_tables.proofs.Listed.{listed_same}
use Rattle.decide_alike.specs.AlikeCoded.{marked_by, free_coded}
use Rattle.decide_alike.proofs.FromFn.{from_fn_listed}
use Rattle.decide_alike.proofs.free_ones.Goals as goal

pub returns : goal.returns
unfolding free_coded marked_by
returns c =
    let a = c.args in
    from_fn_listed _ (λ (x : ℕ). (ltb x a.n && get_or a.least x false) && not (get_or a.fixed x false)) _ _ most_characters false (λ c y q h r. search (rules, tests)) c.from_fn.ensures.items
    ∙ listed_same false _ most_characters _ (λ x h. and_assoc (ltb x a.n) (get_or a.least x false) (not (get_or a.fixed x false)))
