-- The numbers below n that pass a test, marked:
--   marked_at : a number below n is marked if it passes
-- Follows from the laws of lists by number.
use Prim.Native.Nat.{ℕ, ◌<◌}
use mathlib.Core.Path.{◌≡◌, ◌∙◌}
use mathlib.Core.Bool.{Bool, false, ◌&&◌}
use lib.Dec.{ltb}
use lib.ListN.{get_or}
use Rattle.paper.specs.Numbers.{most_characters}
use Rattle.paper.proofs.base.Tests.{lt_ltb}
use Rattle.search_tables.proofs.Listed.{get_or_listed}
use Rattle.decide_alike.specs.AlikeCoded.{marked_by}

pub marked_at : (t : ℕ → Bool) (n c : ℕ) → c < n → c < most_characters → get_or (marked_by t n) c false ≡ t c
unfolding marked_by
marked_at t n c h k = get_or_listed (λ (c : ℕ). ltb c n && t c) most_characters false c k ∙ rw (lt_ltb c n h)
