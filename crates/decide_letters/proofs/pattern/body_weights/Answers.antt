-- `body_weights` meets its contract: where there is a length, the part that is lent is what the body says (`AtMost`).
use Prim.Native.Nat.{ℕ, ◌+◌, ◌-◌}
use native.Mathlib.Omega.{arith}
use mathlib.Core.Path.{ap, ◌∙◌}
use mathlib.Core.List.{List}
use lib.ListN.{get_or, drop, length-take}
use Rattle.paper.specs.Alphabet.{codes}
use Rattle.paper.proofs.base.Tests.{eq_eqb, neq_eqb}
use Rattle.base_editions.specs.Editions.{paper_edition}
use Rattle.decide_letters.specs.PatternStack.{counted, weightless, stack_of, packed}
use Rattle.decide_letters.specs.LettersCoded.{body_weights}
use Rattle.decide_letters.proofs.AtMost.{part_there}
use Rattle.decide_letters.proofs.pattern.body_weights.Goals as goal

pub returns-then-wanted-eq0 : goal.returns-then-wanted-eq0
unfolding body_weights
returns-then-wanted-eq0 c =
    rw (eq_eqb c.args.body.length 0 c.if-wanted-eq0.true) c.open.ensures

pub overflow_sub-s : goal.overflow_sub-s
overflow_sub-s c = c.at_most-start.ensures.within

pub overflow_add-start : goal.overflow_add-start
overflow_add-start c =
    omega (arith, c.at_most-length.ensures.below, c.at_most-there.ensures.within, c.at_most-start.ensures.within)

pub slice_bounds-pattern_weights-count : goal.slice_bounds-pattern_weights-count
slice_bounds-pattern_weights-count c = omega arith

pub slice_bounds-pattern_weights-start : goal.slice_bounds-pattern_weights-start
slice_bounds-pattern_weights-start c = omega arith

pub slice_bounds-pattern_weights-end : goal.slice_bounds-pattern_weights-end
slice_bounds-pattern_weights-end c =
    omega (arith, c.at_most-length.ensures.below, c.at_most-there.ensures.within, c.at_most-start.ensures.within)

pub pattern_weights-requires : goal.pattern_weights-requires
pattern_weights-requires c =
    let from = c.at_most-start.result in
    let many = c.at_most-length.result in
    omega (arith, c.at_most-length.ensures.within, length-take (from + many - from) (drop from c.args.s.now))

pub returns : goal.returns
unfolding body_weights
returns c =
    let a = c.args in
    let its = part_there a.s.now a.body c.at_most-start.result c.at_most-there.result c.at_most-length.result c.at_most-start.ensures c.at_most-there.ensures c.at_most-length.ensures in
    rw (neq_eqb a.body.length 0 c.if-wanted-eq0.false) (c.pattern_weights.ensures ∙ ap (λ (l : List ℕ). packed (get_or (stack_of (counted a.counting) (codes (paper_edition a.edition) l)) 0 weightless)) its)
