-- Fields with a pattern that don't stand (request K13).
--   stray_free : every field with a pattern stands → strays_of held side ≡ []
--   free_stands : strays_of held side ≡ [] → every field with a pattern stands
-- Follow from the members of `keep`.
use Prim.Native.Nat.{ℕ, ◌<◌}
use mathlib.Core.Path.{◌≡◌, refl, subst}
use mathlib.Core.Bool.{true, false, not}
use mathlib.Core.List.Memᴰ
use mathlib.Core.List.{List, [], Memᴰ}
use lib.ListN.{get_or}
use Rattle.paper.specs.Lists.{upto, keep}
use Rattle.paper.specs.Numbers.{fields}
use Rattle.paper.specs.Pattern.{Held, some_text}
use Rattle.paper.specs.Equation.{Side, stands_in}
use Rattle.paper.specs.Sheet.{has_pattern, is_stray, strays_of}
use Rattle.paper.proofs.base.Tests.{by_bool}
use Rattle.paper.proofs.base.Lists.{keep_mem, mem_upto, upto_mem}
use Rattle.paper.proofs.base.Listed.{keep_same, keep_none}

module _ (held : List Held) (side : Side) where
  -- every field with a pattern stands
  abbrev pub AllStand : Type 0
  AllStand = (f : ℕ) → f < fields → has_pattern (get_or held f some_text) ≡ true → stands_in f side ≡ true

  not_stray : AllStand → (f : ℕ) → f < fields → is_stray held side f ≡ false
  not_stray h f k =
      by_bool (has_pattern (get_or held f some_text)) (λ (e : has_pattern (get_or held f some_text) ≡ true). rw (e, h f k e))
      (λ (e : has_pattern (get_or held f some_text) ≡ false). rw e)

  pub stray_free : AllStand → strays_of held side ≡ []
  unfolding strays_of
  stray_free h =
      rw (keep_same (is_stray held side) (λ _. false) (upto fields) (λ f d. not_stray h f (mem_upto fields d)))
      (keep_none (λ _. false) (upto fields) (λ _. refl))

  pub free_stands : strays_of held side ≡ [] → AllStand
  unfolding strays_of
  free_stands none f k e =
      by_bool (stands_in f side) (λ (s : stands_in f side ≡ true). s)
      (λ (s : stands_in f side ≡ false).
      absurd (Memᴰ.not-nil (subst (λ (l : List ℕ). Memᴰ f l) none
      (keep_mem (is_stray held side) (upto fields) (upto_mem fields k) (rw (e, s))))))
