-- `range` meets its contract: all but the space by the space alone.
use mathlib.Core.Path.{sym, ap, ap₂, ◌∙◌}
use mathlib.Core.Bool.{Bool, not}
use Prim.Native.Nat.{suc, ◌-◌}
use Rattle.paper.specs.Lists.{from}
use Rattle.decide_letters.specs.PatternStack.{spread, packed}
use Rattle.decide_letters.proofs.Ranges.{all_but_all, all_but_any}
use Rattle.decide_letters.proofs.weights.range.Goals as goal

pub returns-in-One : goal.returns-in-One
returns-in-One c =
    rw c.in-One.is
    (c.spread.ensures ∙ ap₂ (λ (x y : Bool). packed (spread x y)) c.alone.ensures c.within.ensures)

pub returns-in-AllBut : goal.returns-in-AllBut
returns-in-AllBut c =
    let a = c.args in
    let space = c.in-AllBut.space in
    let its = from a.lo (suc a.hi - a.lo) in
    rw c.in-AllBut.is
    (c.spread-in-AllBut.ensures
    ∙ ap₂ (λ (x y : Bool). packed (spread x y)) (ap not c.within-in-AllBut.ensures ∙ sym (all_but_all space its)) (ap not c.alone-in-AllBut.ensures ∙ sym (all_but_any space its)))
