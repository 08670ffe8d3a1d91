-- `are_characters` meets its contract: `all` tells what the paper's does.
use Prim.Native.Nat.{ℕ}
use Rattle.std.proofs.Common.{◌≡◌, ◌∙◌, refl, ap, rules, tests, Bool, ◌&&◌, List, [], ◌∷◌, ltb}
use Rattle.std.specs.List.{list_all}
use Rattle.std.proofs.lemmas.Iterator.{YieldsList-from_slice}
use Rattle.std.proofs.lemmas.Iterator.Search.{all_from_yields_List}
use Rattle.paper.specs.Lists.{all}
use Rattle.way_records.proofs.are_characters.Goals as goal

same_all : (n : ℕ) (l : List ℕ) → list_all (λ (c : ℕ). ltb c n) l ≡ all (λ (c : ℕ). ltb c n) l
same_all n [] = refl
same_all n (c ∷ l) = ap (λ (b : Bool). ltb c n && b) (same_all n l)

pub returns : goal.returns
returns c =
    let n = c.args.characters in
    let l = c.args.values.now in
    all_from_yields_List (λ (b : ℕ). ltb b n) _ _ c.all.result c.all.ensures.ran (YieldsList-from_slice l c.iter.ensures.rest) (λ x b q k. search (rules, tests))
    ∙ same_all n l
