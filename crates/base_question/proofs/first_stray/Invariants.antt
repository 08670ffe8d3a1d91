-- `first_stray` meets its contract. The loop's invariant: the first stray is the first of those from f on. Assumes nothing.
use Prim.Native.Nat.{ℕ, ◌+◌}
use mathlib.Core.Path.{◌≡◌}
use Rattle.paper.specs.Lists.{from, keep}
use Rattle.paper.specs.Numbers.{fields}
use Rattle.base_question.specs.StraysCoded.{stray_coded, strays_coded}
use Rattle.base_question.proofs.first_stray.Given as goal

abbrev pub invariant-loop-f : goal.invariant-loop-f
invariant-loop-f l = (n : ℕ) → n + l.f ≡ fields → strays_coded l.bodies l.left l.right ≡ keep (stray_coded l.bodies l.left l.right) (from l.f n)
