-- `counts` meets its contract, by what counts.
use Prim.Native.Nat.{ℕ}
use mathlib.Core.Path.{ap}
use mathlib.Core.Bool.{not}
use lib.Dec.{eqb}
use Rattle.decide_letters.proofs.weights.counts.Goals as goal

pub returns-in-One : goal.returns-in-One
returns-in-One c =
    rw c.in-One.is (ap (eqb c.in-One.a) c.wide-own.ensures)

pub returns-in-AllBut : goal.returns-in-AllBut
returns-in-AllBut c =
    rw c.in-AllBut.is (ap (λ (x : ℕ). not (eqb c.in-AllBut.space x)) c.wide-own.ensures)
