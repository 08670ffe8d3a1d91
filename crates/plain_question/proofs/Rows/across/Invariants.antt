-- `across` meets its contract. The loop's invariant: the right tokens below `j` have the places at which the next left token comes in front (`Going`).
use Prim.Native.Nat.{ℕ, suc}
use mathlib.Core.Path.{◌≡◌}
use lib.ListN.{length, take}
use Rattle.paper.specs.Numbers.{longest_side}
use Rattle.plain_rows.specs.Fronts.{Front}
use Rattle.plain_rows.specs.Rows.{front_by}
use Rattle.plain_question.specs.Entered.{fronts, Entered}
use Rattle.plain_question.proofs.Entered.{Going}
use Rattle.plain_question.proofs.Rows.across.Given as goal

abbrev pub invariant-loop-j : goal.invariant-loop-j
invariant-loop-j v =
    let r = fronts v.characters v.self.follow.now v.self.taking.now v.self.last.now (take v.n v.right) in
    (length v.came ≡ suc longest_side)
    × ((l : ℕ → Front) (i : ℕ) → l i ≡ front_by v.self.follow.now v.self.taking.now v.self.last.now v.left → Entered l r v.n i v.initial.came → Going l r v.n i v.came v.right_came v.met v.j)
