-- `uneven` meets its contract, by what its parts promise.
use Prim.Native.Nat.{ℕ}
use mathlib.Core.Path.{ap, ◌∙◌}
use lib.ListN.{get_or}
use Rattle.paper.specs.Lists.{upto}
use Rattle.paper.specs.Numbers.{fields}
use Rattle.base_codes.specs.Inner.{tokens}
use Rattle.base_editions.specs.Editions.{paper_edition}
use Rattle.decide_letters.specs.PatternStack.{counted}
use Rattle.decide_letters.specs.SideCoded.{weight_coded}
use Rattle.decide_letters.specs.LettersCoded.{field_weights, totals_over, uneven_totals, uneven_coded}
use Rattle.decide_letters.proofs.Tried.{totals_listed}
use Rattle.decide_letters.proofs.Asked.uneven.Goals as goal

pub both_sides-requires : goal.both_sides-requires
both_sides-requires c = (c.fixed_weight-left_fixed.ensures.0, c.fixed_weight-right_fixed.ensures.0)

pub returns : goal.returns
unfolding uneven_coded
returns c =
    let asked = c.args.self.now in
    let counts = counted c.args.counting in
    let w = field_weights counts (paper_edition asked.edition) asked.bodies asked.first.now asked.second.now in
    c.uneven.ensures
    ∙ ap uneven_totals
    (c.both_sides.ensures
    ∙ (λ i.
    totals_over (λ (f : ℕ). get_or (asked.lefts i) f 0) (λ (f : ℕ). get_or (asked.rights i) f 0) (c.fixed_weight-left_fixed.ensures.1 i) (c.fixed_weight-right_fixed.ensures.1 i) w (upto fields))
    ∙ totals_listed (tokens asked.left) (tokens asked.right) (weight_coded counts (tokens asked.left)) (weight_coded counts (tokens asked.right)) w)
