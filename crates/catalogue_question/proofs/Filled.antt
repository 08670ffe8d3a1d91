-- What two rules have for their fields, put together: as it is made, and as it is listed. Follows from the laws of `set`, `take`, `drop` and `++`.
use Prim.Native.Nat.{ℕ, suc, ◌+◌, ◌-◌, ◌≤◌, ◌<◌}
use lib.Dec.{ltb}
use native.Mathlib.Nat.{add-zero}
use native.Mathlib.Omega.{arith}
use mathlib.Core.Path.{◌≡◌, sym, ◌∙◌}
use mathlib.Core.List.{List, [], ◌∷◌, ◌++◌, append_assoc, append-nil}
use lib.ListN.{length, get_or, take, drop, set, length-append, drop_of_length-le, take-append-drop}
use lib.Seq.{take-suc, drop-cons, set_at, length-take-le}
use Rattle.std.proofs.lemmas.List.{get_or_append_left, get_or-append_right, get_or-take}
use Rattle.paper.specs.Numbers.{fields, rule_fields}
use Rattle.paper.proofs.base.Tests.{by_bool, ltb_true, ltb_false}
use Rattle.base_question.specs.Bodies.{nowhere}
use Rattle.base_question.specs.declared.Body.{Body}
use Rattle.search_tables.proofs.Listed.{is_listed}
use Rattle.catalogue_question.specs.PairCoded.{joined, body_of, pair_bodies}

-- n fields of the first rule, f of the second, and what of the first is not yet replaced
abbrev pub with_fields : {A : Type 0} → ℕ → List A → List A → ℕ → List A
with_fields n first second f = (take n first ++ take f second) ++ drop (n + f) first

one_more : {A : Type 0} (a b : List A) (x : A) (d : List A) → (a ++ b) ++ (x ∷ d) ≡ (a ++ (b ++ (x ∷ []))) ++ d
one_more a b x d = rw (append_assoc a b (x ∷ d), append_assoc a (b ++ (x ∷ [])) d, append_assoc b (x ∷ []) d)

module _ {A : Type 0} (n : ℕ) (first second : List A) where
  pub fields_more : (none : A) (f : ℕ) → n + f < length first → f < length second →
      set (with_fields n first second f) (n + f) (get_or second f none) ≡ with_fields n first second (suc f)
  fields_more none f a b =
      let k : length (take n first ++ take f second) ≡ n + f =
      length-append (take n first) (take f second)
      ∙ rw (length-take-le n first (omega arith), length-take-le f second (omega arith)) in
      let s : suc (n + f) ≡ n + suc f = omega arith in
      rw
      (drop-cons first (n + f) none a, set_at (take n first ++ take f second) (get_or first (n + f) none) (drop (suc (n + f)) first) (get_or second f none) (n + f) k, take-suc second f none b, s)
      (one_more (take n first) (take f second) (get_or second f none) (drop (n + suc f) first))

  pub fields_all : length first ≤ n + n → (f : ℕ) → f ≡ n → with_fields n first second f ≡ take n first ++ take n second
  fields_all a f e = rw (e, drop_of_length-le first {i = n + n} a) (append-nil (take n first ++ take n second))

  pub fields_none : first ≡ with_fields n first second 0
  fields_none = sym (rw (append-nil (take n first), add-zero n) (take-append-drop n first))

-- where the patterns of both rules stand, by the fields' numbers
pub bodies_listed : (first second : List Body) → length first ≡ fields → length second ≡ fields → joined first second ≡ pair_bodies first second
unfolding pair_bodies
bodies_listed first second a b =
    let front : length (take rule_fields first) ≡ rule_fields = length-take-le rule_fields first (omega arith) in
    let back : length (take rule_fields second) ≡ rule_fields = length-take-le rule_fields second (omega arith) in
    is_listed nowhere (body_of first second) fields (joined first second) (length-append (take rule_fields first) (take rule_fields second) ∙ omega arith)
    (λ f h.
    by_bool (ltb f rule_fields)
    (λ (e : ltb f rule_fields ≡ _).
    let low = ltb_true f rule_fields e in
    rw e (get_or_append_left (take rule_fields first) (take rule_fields second) nowhere f (omega arith) ∙ get_or-take rule_fields first f nowhere low))
    (λ (e : ltb f rule_fields ≡ _).
    let high = ltb_false f rule_fields e in
    rw e
    (get_or-append_right (take rule_fields first) (take rule_fields second) rule_fields f nowhere front high
    ∙ get_or-take rule_fields second (f - rule_fields) nowhere (omega arith))))
