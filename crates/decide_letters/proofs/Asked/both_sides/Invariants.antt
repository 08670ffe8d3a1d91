-- `both_sides` meets its contract. The loop's invariant: the fields from f on are weighed (`Weighing`).
use Prim.Native.Nat.{ℕ}
use lib.ListN.{get_or}
use Rattle.base_editions.specs.Editions.{paper_edition}
use Rattle.decide_letters.specs.PatternStack.{counted}
use Rattle.decide_letters.specs.LettersCoded.{field_weights}
use Rattle.decide_letters.proofs.BothWeighed.{Weighing}
use Rattle.decide_letters.proofs.Asked.both_sides.Given as goal

abbrev pub invariant-loop-f : goal.invariant-loop-f
invariant-loop-f l =
    Weighing (λ (g : ℕ). get_or l.self.left_times g 0) (λ (g : ℕ). get_or l.self.right_times g 0) l.left_fixed l.right_fixed
    (field_weights (counted l.counting) (paper_edition l.self.edition) l.self.bodies l.self.first.now l.self.second.now) l.t l.f
