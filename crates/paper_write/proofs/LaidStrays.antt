-- Patterns whose fields stand in neither side (request K13): what the last check finds among fields that were read, and among the records laid out.
--   none_laid : behind the last length
--   open_laid : a field without a pattern
--   with_laid : a field with a pattern, whose record's mark is at the place
-- By how many fields are left, of which there may be more than a sheet has: those behind are open.
use Prim.Native.Nat.{ℕ, zero, suc, ◌+◌, ◌≤◌, ◌<◌}
use native.Mathlib.Omega.{arith}
use mathlib.Core.Path.{◌≡◌, refl, sym, ap}
use mathlib.Core.Bool.{true, false, cond}
use mathlib.Core.List.{List, [], ◌∷◌}
use lib.ListN.{get_or}
use Rattle.paper.specs.Lists.{from, keep}
use Rattle.paper.specs.Numbers.{fields}
use Rattle.paper.specs.Pattern.{Pattern, some_text, pattern}
use Rattle.paper.specs.Equation.{Side, stands_in}
use Rattle.paper.specs.Sheet.{stray_pattern, Fields, is_stray}
use Rattle.paper.proofs.base.Tests.{by_bool}
use Rattle.paper_write.specs.Laying.{Laying, at_fault, laid_out}

-- the first of the strays at its mark, or what is done
abbrev pub StraysAs : Fields → List ℕ → List ℕ → Laying → Type 0
StraysAs its done [] w = w ≡ laid_out done
StraysAs its done (g ∷ gs) w = w ≡ at_fault stray_pattern (get_or its.marks g 0)

module _ (its : Fields) (side : Side) (done : List ℕ) where
  -- of the fields from f on
  abbrev pub LaidAs : ℕ → Laying → Type 0
  LaidAs f w = (k : ℕ) → fields ≤ f + k → StraysAs its done (keep (is_stray its.held side) (from f k)) w

  pub none_laid : (f : ℕ) → ((i : ℕ) → f ≤ i → get_or its.held i some_text ≡ some_text) → LaidAs f (laid_out done)
  none_laid f still k h = none_from k f still
    where
      none_from : (k f : ℕ) → ((i : ℕ) → f ≤ i → get_or its.held i some_text ≡ some_text)
          → StraysAs its done (keep (is_stray its.held side) (from f k)) (laid_out done)
      none_from zero f still = refl
      none_from (suc k) f still = rw (still f (omega arith)) (none_from k (suc f) (λ (i : ℕ) (h : suc f ≤ i). still i (omega arith)))

  module _ (f : ℕ) where
    pub open_laid : (w : Laying) → get_or its.held f some_text ≡ some_text → LaidAs (suc f) w → LaidAs f w
    open_laid w still next zero h = next zero (omega arith)
    open_laid w still next (suc k) h = rw still (next k (omega arith))

    pub with_laid : (w : Laying) (p : Pattern) (at : ℕ) → f < fields → get_or its.held f some_text ≡ pattern p → get_or its.marks f 0 ≡ at
        → LaidAs (suc f) w → LaidAs f (cond (stands_in f side) w (at_fault stray_pattern at))
    with_laid w p at known held mark next zero h = absurd (omega arith)
    with_laid w p at known held mark next (suc k) h =
        by_bool (stands_in f side)
        (λ (e : stands_in f side ≡ true). rw (held, e) (next k (omega arith)))
        (λ (e : stands_in f side ≡ false). rw (held, e) (ap (at_fault stray_pattern) (sym mark)))
