-- `both_sides` meets its contract. The loop's invariant: the fields from f on are weighed (`Weighing`).
use Prim.Native.Nat.{ℕ, ◌-◌, ◌≤◌}
use native.Mathlib.Omega.{arith}
use mathlib.Core.Path.{◌≡◌, ap, ◌∙◌}
use lib.ListN.{length, get_or}
use borrow.Author.Rules.{rules}
use Rattle.paper.specs.Numbers.{longest_side}
use Rattle.paper_decide.specs.Letters.{Weights}
use Rattle.base_editions.specs.Editions.{paper_edition}
use Rattle.decide_letters.specs.PatternStack.{counted, unpacked}
use Rattle.decide_letters.specs.LettersCoded.{field_weights}
use Rattle.decide_letters.proofs.Packing.{Small, packed_again}
use Rattle.decide_letters.proofs.Sizes.{field_small}
use Rattle.decide_letters.proofs.Tried.{listed_small}
use Rattle.decide_letters.proofs.BothWeighed.{weighing_none, weighing_alike, weighing_more, weighing_all, weighing_room}
use Rattle.decide_letters.proofs.Asked.both_sides.Goals.{Start}
use Rattle.decide_letters.proofs.Asked.both_sides.Goals as goal

module _ (s : Start) where
  abbrev lefts : ℕ → ℕ
  lefts g = get_or s.args.self.now.left_times g 0

  abbrev rights : ℕ → ℕ
  rights g = get_or s.args.self.now.right_times g 0

  abbrev weights : ℕ → Weights
  weights = field_weights (counted s.args.counting) (paper_edition s.args.self.now.edition) s.args.self.now.bodies s.args.self.now.first.now s.args.self.now.second.now

  weights_small : (g : ℕ) → Small (weights g)
  weights_small g = field_small (counted s.args.counting) (paper_edition s.args.self.now.edition) s.args.self.now.bodies s.args.self.now.first.now s.args.self.now.second.now g

  -- no field stands in a side more than 48 times
  left_few : (g : ℕ) → lefts g ≤ longest_side
  left_few g =
      let long : length s.args.self.now.left ≡ longest_side = search rules in
      rw s.args.self.now.lefts (listed_small s.args.self.now.left long g)

  right_few : (g : ℕ) → rights g ≤ longest_side
  right_few g =
      let long : length s.args.self.now.right ≡ longest_side = search rules in
      rw s.args.self.now.rights (listed_small s.args.self.now.right long g)

pub loop-f-init : goal.loop-f-init
loop-f-init c =
    let s = (goal.at.loop-f-init c).Start in
    rw c.fixed-t.ensures (weighing_none (lefts s) (rights s) s.args.left_fixed s.args.right_fixed (weights s))

pub with_field-t-requires : goal.with_field-t-requires
with_field-t-requires c =
    let s = (goal.at.with_field-t-requires c).Start in
    let g = c.loop-f.f - 1 in (
      left_few s g,
      right_few s g,
      weighing_room (lefts s) (rights s) s.args.left_fixed s.args.right_fixed (weights s) (weights_small s) (left_few s) (right_few s) s.requires.0 s.requires.1
          c.loop-f.t c.loop-f.f c.loop-f.invariant,
    )

pub loop-f-preserved-then-l-r : goal.loop-f-preserved-then-l-r
loop-f-preserved-then-l-r c =
    let s = (goal.at.loop-f-preserved-then-l-r c).Start in
    let f = c.loop-f.f in
    let is-w = ap unpacked c.field_weights-w.ensures ∙ packed_again (weights s (f - 1)) (weights_small s (f - 1)) in
    weighing_more (lefts s) (rights s) s.args.left_fixed s.args.right_fixed (weights s) c.loop-f.t f c.loop-f.invariant c.loop-f-test.true
    (unpacked c.field_weights-w.result) is-w c.with_field-t.result c.with_field-t.ensures

pub loop-f-preserved : goal.loop-f-preserved
loop-f-preserved c =
    let s = (goal.at.loop-f-preserved c).Start in
    weighing_alike (lefts s) (rights s) s.args.left_fixed s.args.right_fixed (weights s) c.loop-f.t c.loop-f.f c.loop-f.invariant c.loop-f-test.true c.if-l-r.false

pub returns : goal.returns
returns c =
    let s = (goal.at.returns c).Start in
    weighing_all (lefts s) (rights s) s.args.left_fixed s.args.right_fixed (weights s) c.loop-f.t c.loop-f.f c.loop-f.invariant (omega (arith, c.loop-f-test.false))
