-- Which characters can be put: where one of the tokens in front is a character, that one alone. And what is offered where the others are
-- left out. Follows from the definitions of what a token takes and of the children.
use Prim.Native.Nat.{ℕ, zero, suc, ◌+◌, ◌-◌, ◌≤◌, ◌<◌}
use native.Mathlib.Omega.{arith}
use mathlib.Core.Path.{◌≡◌, refl, sym, ap, ◌∙◌}
use mathlib.Core.Bool.{false, and-false}
use mathlib.Core.List.{List, [], ◌++◌, append-nil}
use Rattle.paper.specs.Lists.{each, upto}
use Rattle.paper.specs.Numbers.{most_characters}
use Rattle.paper.specs.Search.{Child}
use Rattle.paper.proofs.base.Tests.{neq_eqb, lt_leb}
use Rattle.paper.proofs.base.Listed.{upto_snoc}
use Rattle.base_codes.specs.Inner.{field_code}
use Rattle.base_codes.specs.Coded.{Coded}
use Rattle.search_fronts.specs.Fronts.{Front, takes_next, set_by, both_take}
use Rattle.search_children.specs.Children.{put_of, as_child}
use Rattle.search_children.proofs.Short.{put_not_taken}
use Rattle.search_run.specs.Lent.{NotPut, StartsPuts, EndsPuts}
use Rattle.search_slots.proofs.Rows.{each_snoc}

-- "a character in front must be c"
other_character : (a c m : ℕ) → a < most_characters → (a ≡ c → ⊥) → takes_next a m c ≡ false
unfolding takes_next
other_character a c m h d = rw (lt_leb field_code a (omega arith), neq_eqb a c d)

pub left_not : (a b c : ℕ) → a < most_characters → (a ≡ c → ⊥) → NotPut a b c
left_not a b c h d m n = rw (other_character a c m h d)

pub right_not : (a b c : ℕ) → b < most_characters → (b ≡ c → ⊥) → NotPut a b c
right_not a b c h d m n = rw (other_character b c n h d) (and-false (takes_next a m c))

-- the child by a character, if there is one
abbrev pub by_character : Coded → Front → Front → ℕ → List (Child Coded ℕ)
by_character k l r c = as_child c (put_of k l r c)

module _ (characters : ℕ) (k : Coded) (l r : Front) where
  none_by : (c : ℕ) → NotPut l.token r.token c → by_character k l r c ≡ []
  none_by c h = ap (as_child c) (put_not_taken k l r c (both_take l r c) refl (h (set_by l c) (set_by r c)))

  -- one more that gives no child
  leaves_out : (c : ℕ) → NotPut l.token r.token c
      → each (by_character k l r) (upto (suc c)) ≡ each (by_character k l r) (upto c)
  leaves_out c h =
      ap (each (by_character k l r)) (upto_snoc c)
      ∙ each_snoc (by_character k l r) (upto c) c
      ∙ ap (λ (x : List (Child Coded ℕ)). each (by_character k l r) (upto c) ++ x) (none_by c h)
      ∙ append-nil (each (by_character k l r) (upto c))

  none_below : (n : ℕ) → ((c : ℕ) → c < n → NotPut l.token r.token c) → each (by_character k l r) (upto n) ≡ []
  none_below zero h = refl
  none_below (suc n) h = leaves_out n (h n (omega arith)) ∙ none_below n (λ (c : ℕ) (d : c < n). h c (omega arith))

  pub none_first : (n : ℕ) → StartsPuts characters l.token r.token n → each (by_character k l r) (upto n) ≡ []
  none_first n h = none_below n h.1

  none_from : (n j m : ℕ) → m ≡ n + j → ((c : ℕ) → n ≤ c → c < n + j → NotPut l.token r.token c)
      → each (by_character k l r) (upto m) ≡ each (by_character k l r) (upto n)
  none_from n zero m e h =
      let f : m ≡ n = omega arith in
      ap (λ (x : ℕ). each (by_character k l r) (upto x)) f
  none_from n (suc j) m e h =
      let f : m ≡ suc (n + j) = omega arith in
      ap (λ (x : ℕ). each (by_character k l r) (upto x)) f
      ∙ leaves_out (n + j) (h (n + j) (omega arith) (omega arith))
      ∙ none_from n j (n + j) refl (λ (c : ℕ) (d : n ≤ c) (g : c < n + j). h c d (omega arith))

  -- those from c on are left out
  pub none_left : (end c : ℕ) → EndsPuts characters l.token r.token end → end ≤ c → c ≤ characters
      → each (by_character k l r) (upto c) ≡ each (by_character k l r) (upto characters)
  none_left end c h b e =
      sym (none_from c (characters - c) characters (omega arith) (λ (x : ℕ) (d : c ≤ x) (f : x < c + (characters - c)). h.1 x (omega arith) (omega arith)))
