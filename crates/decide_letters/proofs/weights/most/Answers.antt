-- `most` meets its contract, by what the parts of a number are.
use native.Mathlib.Omega.{arith}
use mathlib.Core.Path.{refl}
use Rattle.decide_letters.specs.PatternStack.{unpacked}
use Rattle.decide_letters.proofs.weights.most.Goals as goal

pub returns : goal.returns
unfolding unpacked
returns c = (refl, omega arith)
