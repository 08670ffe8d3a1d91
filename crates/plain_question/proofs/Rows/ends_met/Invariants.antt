-- `ends_met` meets its contract. The loop's invariant: the places at which the left token `i` came in front, for each right token, and whether the start of
-- the one before it was met with that of the right side's end.
use Prim.Native.Nat.{ℕ, suc}
use mathlib.Core.Path.{◌≡◌}
use lib.ListN.{take}
use Rattle.plain_question.specs.Reached.{Reached, Says}
use Rattle.plain_question.specs.Entered.{fronts, Entered}
use Rattle.plain_question.proofs.Rows.ends_met.Given as goal

abbrev pub invariant-loop-i : goal.invariant-loop-i
invariant-loop-i v =
    let l = fronts v.characters v.self.follow.now v.self.taking.now v.self.last.now (take v.n v.left) in
    let r = fronts v.characters v.self.follow.now v.self.taking.now v.self.last.now (take v.m v.right) in
    Entered l r v.m v.i v.came × ((k : ℕ) → v.i ≡ suc k → Says v.met (Reached l r k 0 v.m 0))
