-- What `array::from_fn` gives of a closure that stays as it is: h 0, h 1, .. , where h says what a call gives:
--   from_fn_listed : ys ≡ listed_by h n
-- Follows from its contract by induction on n.
use Prim.Native.Nat.{ℕ, zero, suc, ◌+◌, ◌≤◌, ◌<◌}
use native.Mathlib.Omega.{arith}
use mathlib.Core.Path.{◌≡◌, sym, ap, ◌∙◌, subst}
use mathlib.Core.Bool.{true, false}
use mathlib.Core.List.{List}
use lib.Dec.{eqb}
use lib.ListN.{get_or}
use denote.Param.Members.{Mut}
use Rattle.std.specs.Fn.{Called}
use Rattle.std.specs.Array.{IsFromFnResult, IsFromFnResultFrom}
use Rattle.paper.proofs.base.Tests.{by_bool, eqb_true, eqb_false}
use Rattle.search_tables.specs.Cut.{listed_by}
use Rattle.search_tables.proofs.Listed.{is_listed}

module _ {F B : Type 0} (g : Mut F (ℕ × Unit {0}) B) (h : ℕ → B) (f : F) (ys : List B) (n : ℕ) (d : B)
    (call : (k : ℕ) (y : B) (q : F) → k < n → Called g f (k, tt) y q → (q ≡ f) × (y ≡ h k)) where
  each_is : (i m : ℕ) → i + m ≡ n → IsFromFnResultFrom g f ys i m → (k : ℕ) → i ≤ k → k < n → get_or ys k d ≡ h k
  each_is i zero s r k l u = absurd (omega arith)
  each_is i (suc m) s r k l u =
      let here = call i r.1 r.0 (omega arith) r.3 in
      by_bool (eqb k i)
      (λ (e : eqb k i ≡ true).
      let same = eqb_true k i e in
      ap (λ (j : ℕ). get_or ys j d) same ∙ r.2.1 d ∙ here.1 ∙ ap h (sym same))
      (λ (e : eqb k i ≡ false).
      let other = eqb_false k i e in
      each_is (i + 1) m (omega arith) (subst (λ (q : F). IsFromFnResultFrom g q ys (i + 1) m) here.0 r.4) k (omega arith) u)

  pub from_fn_listed : IsFromFnResult g f ys n → ys ≡ listed_by h n
  from_fn_listed r = is_listed d h n ys r.long (λ k u. each_is 0 n (omega arith) r.each k (omega arith) u)
