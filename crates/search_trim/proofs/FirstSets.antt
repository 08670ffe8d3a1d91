-- Laws of the first place sets: of a field, by whether it stands in the left side and in the right; of all. Follows from the
-- definitions, by cases on their tests.
use Prim.Native.Nat.{ℕ, zero, suc, ◌+◌, ◌<◌}
use native.Mathlib.Omega.{arith}
use mathlib.Core.Path.{◌≡◌, sym, ◌∙◌, subst}
use mathlib.Core.Bool.{true, false, or-true, ◌||◌}
use mathlib.Core.List.{List, ◌++◌, map}
use lib.Dec.{eqb}
use lib.ListN.{length, get_or}
use lib.Seq.{ext_get_or}
use Rattle.std.specs.Array.{IsFromFnResultFrom, IsFromFnResult}
use Rattle.std.specs.Fn.{Called, Mut}
use Rattle.paper.specs.Lists.{upto, member}
use Rattle.paper.specs.Numbers.{set_fields}
use Rattle.paper.proofs.base.Lists.{any_append}
use Rattle.paper.proofs.base.Listed.{get_or_map_upto}
use Rattle.base_codes.specs.Inner.{field_code}
use Rattle.search_trim.specs.Trimming.{first_mask, first_masks}

-- the first set of a field, by whether it stands in the left side and in the right
module _ (l r : List ℕ) (f : ℕ) where
  member_both : (t : ℕ) → member t (l ++ r) ≡ (member t l || member t r)
  member_both t = any_append (λ (x : ℕ). eqb t x) l r

  pub first_left : member (field_code + f) l ≡ true → first_mask (l ++ r) f ≡ 1
  unfolding first_mask
  first_left e = rw (member_both (field_code + f), e)

  pub first_right : member (field_code + f) r ≡ true → first_mask (l ++ r) f ≡ 1
  unfolding first_mask
  first_right e = rw (member_both (field_code + f), e, or-true)

  pub first_neither : member (field_code + f) l ≡ false → member (field_code + f) r ≡ false → first_mask (l ++ r) f ≡ 0
  unfolding first_mask
  first_neither e k = rw (member_both (field_code + f), e, k)

-- what a closure that keeps its state made of each number
module _ {F : Type 0} (g : Mut F (ℕ × Unit {0}) ℕ) (f : F) (made : ℕ → ℕ) (says : (i y : ℕ) (q : F) → Called g f (i, tt) y q → (q ≡ f) × (y ≡ made i))
    (ys : List ℕ) where
  made_from : (n i k j : ℕ) → IsFromFnResultFrom g f ys i n → j ≡ i + k → k < n → get_or ys j 0 ≡ made j
  made_from zero i k j m e h = absurd (omega arith)
  made_from (suc n) i zero j m e h =
      let same : j ≡ i = omega arith in
      rw same (m.2.1 0 ∙ (says i m.1 m.0 m.3).1)
  made_from (suc n) i (suc k) j m e h =
      made_from n (i + 1) k j (subst (λ (q : F). IsFromFnResultFrom g q ys (i + 1) n) (says i m.1 m.0 m.3).0 m.4) (omega arith) (omega arith)

  pub made_of_each : (n : ℕ) → IsFromFnResult g f ys n → (j : ℕ) → j < n → get_or ys j 0 ≡ made j
  made_of_each n m j h = made_from n 0 j j m.each (omega arith) h

-- a list that has each field's mask
pub each_first : (side sets : List ℕ) → length sets ≡ set_fields → ((f : ℕ) → f < set_fields → get_or sets f 0 ≡ first_mask side f) → sets ≡ first_masks side
unfolding first_masks
each_first side sets long each =
    ext_get_or 0 sets (map (first_mask side) (upto set_fields)) long
    (λ f h.
    let k : f < set_fields = omega arith in
    each f k ∙ sym (get_or_map_upto (first_mask side) 0 set_fields f k))
