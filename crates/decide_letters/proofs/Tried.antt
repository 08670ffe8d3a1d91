-- Characters that were tried, and the tokens of a side one after the other.
--   tried_one, tried_on : one token more
--   no_character, is_space, was_seen, is_tried : by the tests on it
--   seen_none, seen_more : the marks
--   by_all, by_left, by_right : all that is tried, in order
--   listed_small, totals_listed : how often each field stands, as the struct has it
-- Follows from the laws of `set` and from the definitions.
use Prim.Native.Nat.{ℕ, ◌≤◌, ◌<◌}
use native.Mathlib.Omega.{arith}
use mathlib.Core.Path.{◌≡◌, refl, sym, ap, ◌∙◌}
use mathlib.Core.Bool.{Bool, true, false, ◌&&◌, ◌||◌}
use mathlib.Core.List.{List, ◌∷◌, ◌++◌}
use lib.Dec.{ltb, eqb}
use lib.ListN.{length, get_or, set, replicate, length-map, length-set, length-replicate, get_or-replicate, get_or-eq_default}
use lib.Seq.{get_or-set_other}
use Rattle.paper.specs.Lists.{upto, any}
use Rattle.paper.specs.Numbers.{fields, longest_side}
use Rattle.paper.proofs.base.Lists.{length_from, any_append}
use Rattle.paper.proofs.base.Tests.{by_bool, true_false, right_false, left_true, eqb_true, eqb_false, eq_eqb, neq_eqb, ltb_true, ltb_false, lt_ltb, le_ltb}
use Rattle.paper_decide.specs.Letters.{Weights, this_one, all_but}
use Rattle.base_codes.specs.Inner.{field_code, is_char, tokens}
use Rattle.base_codes.proofs.Tokens.{tokens_length}
use Rattle.decide_letters.specs.SideCoded.{times_coded, times_listed}
use Rattle.decide_letters.specs.LettersCoded.{totals_over, uneven_by_one}
use Rattle.decide_letters.specs.Uneven.{Seen}
use Rattle.decide_letters.proofs.InSides.{times_le, listed_at}

-- a token by which the sides are uneven, and one by which they are not
pub tried_one : (p : ℕ → Bool) {l : List ℕ} {b : ℕ} {rest : List ℕ} → l ≡ b ∷ rest → p b ≡ true → true ≡ any p l
tried_one p {b = b} {rest = rest} e h = rw e (sym (left_true (p b) (any p rest) h))

pub tried_on : (p : ℕ → Bool) {l : List ℕ} {b : ℕ} {rest : List ℕ} → l ≡ b ∷ rest → p b ≡ false → any p rest ≡ any p l
tried_on p e h = rw (e, h)

-- a token, by whether it is tried
module _ (uneven : (ℕ → Bool) → Bool) (space b : ℕ) where
  pub no_character : field_code ≤ b → uneven_by_one uneven space b ≡ false
  no_character h = rw (le_ltb b field_code h)

  pub is_space : space ≡ b → uneven_by_one uneven space b ≡ false
  is_space e = rw (eq_eqb space b e) (right_false (is_char b) false refl)

  pub was_seen : uneven (this_one b) ≡ false → uneven_by_one uneven space b ≡ false
  was_seen e = right_false (is_char b) (all_but space b && uneven (this_one b)) (right_false (all_but space b) (uneven (this_one b)) e)

  pub is_tried : b < field_code → (space ≡ b → ⊥) → uneven_by_one uneven space b ≡ uneven (this_one b)
  is_tried h n = rw (lt_ltb b field_code h, neq_eqb space b n)

no_mark : (n c : ℕ) → get_or (replicate n false) c false ≡ false
no_mark n c =
    by_bool (ltb c n) (λ e. get_or-replicate n c false false (ltb_true c n e))
    (λ e. get_or-eq_default (replicate n false) false {n = c} (let k = ltb_false c n e in omega (arith, length-replicate n false)))

module _ (uneven : (ℕ → Bool) → Bool) where
  pub seen_none : Seen uneven (replicate field_code false)
  seen_none = record { long = length-replicate field_code false; even = λ c e. absurd (true_false e (no_mark field_code c)) }

  pub seen_more : (marks : List Bool) (c : ℕ) → Seen uneven marks → uneven (this_one c) ≡ false → Seen uneven (set marks c true)
  seen_more marks c s e =
      record {
        long = length-set marks c true ∙ s.long;
        even = λ d m.
            by_bool (eqb d c)
            (λ (f : eqb d c ≡ true). ap (λ (x : ℕ). uneven (this_one x)) (eqb_true d c f) ∙ e)
            (λ (f : eqb d c ≡ false). s.even d (sym (get_or-set_other marks c d true false (eqb_false d c f)) ∙ m));
      }

pub listed_small : (side : List ℕ) → length side ≡ longest_side → (f : ℕ) → get_or (times_listed (tokens side)) f 0 ≤ longest_side
unfolding times_listed
listed_small side long f =
    by_bool (ltb f fields)
    (λ e. omega (arith, listed_at (tokens side) f (ltb_true f fields e), times_le f (tokens side), tokens_length side))
    (λ e.
    let out = ltb_false f fields e in
    let none = get_or-eq_default (times_listed (tokens side)) 0 {n = f}
    (omega (arith, length-map (upto fields) (λ (g : ℕ). times_coded g (tokens side)), length_from 0 fields)) in
    omega arith)

pub totals_listed : (l r : List ℕ) (a b : ℕ) (weights : ℕ → Weights)
    → totals_over (λ (f : ℕ). get_or (times_listed l) f 0) (λ (f : ℕ). get_or (times_listed r) f 0) a b weights (upto fields)
    ≡ totals_over (λ (f : ℕ). times_coded f l) (λ (f : ℕ). times_coded f r) a b weights (upto fields)
unfolding times_listed
totals_listed l r a b weights = refl

-- all characters but the space, then those of the left side, then those of the right
module _ (uneven : (ℕ → Bool) → Bool) (space : ℕ) (l r : List ℕ) where
  abbrev by_one : ℕ → Bool
  by_one = uneven_by_one uneven space

  abbrev all_tried : Bool
  all_tried = uneven (all_but space) || any by_one (l ++ r)

  pub by_all : uneven (all_but space) ≡ true → true ≡ all_tried
  by_all h = sym (left_true (uneven (all_but space)) (any by_one (l ++ r)) h)

  pub by_left : uneven (all_but space) ≡ false → any by_one l ≡ true → true ≡ all_tried
  by_left h k = rw (h, any_append by_one l r, k)

  pub by_right : uneven (all_but space) ≡ false → any by_one l ≡ false → (x : Bool) → x ≡ any by_one r → x ≡ all_tried
  by_right h k x e = rw (h, any_append by_one l r, k) e
