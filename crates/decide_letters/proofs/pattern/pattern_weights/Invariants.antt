-- `pattern_weights` meets its contract. The loop's invariant: the codes from i on are done, and what they make stands from `top` on (`Walked`).
use Rattle.paper.specs.Alphabet.{codes}
use Rattle.base_editions.specs.Editions.{paper_edition}
use Rattle.decide_letters.specs.PatternStack.{counted}
use Rattle.decide_letters.proofs.Walked.{Walked}
use Rattle.decide_letters.proofs.pattern.pattern_weights.Given as goal

abbrev pub invariant-loop-i : goal.invariant-loop-i
invariant-loop-i l =
    Walked (counted l.counting) (codes (paper_edition l.edition) l.bytes) l.stack l.top l.lo l.hi l.i
