-- `same_places` meets its contract: the library's `all` over the fields.
use mathlib.Core.Path.{refl, ◌∙◌}
use borrow.Author.Rules.{rules}
use borrow.Author.Tests.{tests}
use Rattle.std.proofs.lemmas.Iterator.{YieldsList-from_range}
use Rattle.std.proofs.lemmas.Iterator.Search.{all_from_yields_List}
use Rattle.paper.specs.Numbers.{set_fields}
use Rattle.decide_alike.specs.AlikeCoded.{same_in, same_places}
use Rattle.decide_alike.proofs.InRange.{all_range}
use Rattle.decide_alike.proofs.Signs.same_places.Goals as goal

pub returns : goal.returns
unfolding same_places
returns c =
    let a = c.args in
    let test = same_in a.self.now.standing a.self.now.taking.now a.a a.b in
    all_from_yields_List test _ _ _ c.all.ensures.ran (YieldsList-from_range 0 set_fields set_fields refl refl) (λ x b q k. search (rules, tests))
    ∙ all_range test 0 set_fields
