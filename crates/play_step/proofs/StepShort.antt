-- Steps by their tests: the put as the code makes it, and the step by its code; and what a step makes of a short situation is short.
-- Follows from the definitions, and from the same of the search's children.
use Prim.Native.Nat.{ℕ, ◌≤◌, ◌<◌}
use native.Mathlib.Omega.{arith}
use mathlib.Core.Path.{◌≡◌}
use mathlib.Core.Bool.{Bool, true, false}
use mathlib.Core.List.{List}
use lib.Dec.{eqb, ltb}
use Rattle.paper.specs.Numbers.{most_characters}
use Rattle.paper.proofs.base.Tests.{cond_by, ltb_true, lt_ltb, le_ltb, eq_eqb, neq_eqb}
use Rattle.base_codes.specs.Inner.{left_struck, right_struck, front}
use Rattle.base_codes.specs.Coded.{Coded, Short}
use Rattle.search_fronts.specs.Fronts.{Front, front_from, set_by, both_take}
use Rattle.search_children.specs.Children.{Tables, Settled, dropped, made, left_strike, right_strike, put_child}
use Rattle.search_children.proofs.Short.{left_strike_short, right_strike_short, put_short, put_taken, put_not_taken}
use Rattle.play_step.specs.StepCoded.{put_step, step_coded}

module _ (follow taking : List (List ℕ)) (s : Coded) (c : ℕ) where
  pub put_none : most_characters ≤ c → put_step follow taking s c ≡ dropped
  unfolding put_step
  put_none h = rw (le_ltb c most_characters h)

  module _ (h : c < most_characters) (l r : Front)
      (e : l ≡ front_from follow taking s.sets (front s.left)) (f : r ≡ front_from follow taking s.sets (front s.right))
      (b : Bool) (t : b ≡ both_take l r c) where
    pub put_made : b ≡ true → put_step follow taking s c ≡ put_child s c (set_by l c) (set_by r c)
    unfolding put_step
    put_made k = rw (lt_ltb c most_characters h, ← e, ← f) (put_taken s l r c b t k)

    pub put_dropped : b ≡ false → put_step follow taking s c ≡ dropped
    unfolding put_step
    put_dropped k = rw (lt_ltb c most_characters h, ← e, ← f) (put_not_taken s l r c b t k)

module _ (T : Tables) (s : Coded) (step : ℕ) where
  pub step_left : step ≡ left_struck → step_coded T s step ≡ left_strike T.last s
  unfolding step_coded
  step_left h = rw (eq_eqb step left_struck h)

  pub step_right : (step ≡ left_struck → ⊥) → step ≡ right_struck → step_coded T s step ≡ right_strike T.last s
  unfolding step_coded
  step_right n h = rw (neq_eqb step left_struck n, eq_eqb step right_struck h)

  pub step_put : (step ≡ left_struck → ⊥) → (step ≡ right_struck → ⊥) → step_coded T s step ≡ put_step T.follow T.taking s step
  unfolding step_coded
  step_put n m = rw (neq_eqb step left_struck n, neq_eqb step right_struck m)

-- what is made of a short situation is short
put_step_short : (follow taking : List (List ℕ)) {k t : Coded} (c : ℕ) → Short k → put_step follow taking k c ≡ made t → Short t
unfolding put_step
put_step_short follow taking {k} {t} c h =
    cond_by (λ (x : Settled). x ≡ made t → Short t) (ltb c most_characters)
    (λ (b : ltb c most_characters ≡ true). put_short _ _ c (ltb_true c most_characters b) h)
    (λ _ (e : dropped ≡ made t). absurd (let z : ◌≡◌ {A = ℕ} 0 1 = cc in omega arith))

pub step_short : (T : Tables) {k t : Coded} (step : ℕ) → Short k → step_coded T k step ≡ made t → Short t
unfolding step_coded
step_short T {k} {t} step h =
    cond_by (λ (x : Settled). x ≡ made t → Short t) (eqb step left_struck) (λ _. left_strike_short T.last h)
    (λ _. cond_by (λ (x : Settled). x ≡ made t → Short t) (eqb step right_struck) (λ _. right_strike_short T.last h)
    (λ _. put_step_short T.follow T.taking step h))
