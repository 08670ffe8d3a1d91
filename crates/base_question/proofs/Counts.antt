-- Counting the tokens of a side, one after the other, and filling a list of counts.
--   counts_kept, length_keep          : what the library counts; stands_counted: a code that stands is counted
--   count_append                      : those of two sides; count_left, count-right: one of the first, or none
--   Counted                           : the counts below f are there; none yet, one more, all
-- Follows from the definitions of `tokens` and `keep`, and from the laws of `set`.
use Prim.Native.Nat.{ℕ, suc, ◌+◌, ◌≤◌, ◌<◌}
use native.Mathlib.Omega.{arith}
use mathlib.Core.Path.{◌≡◌, refl, sym, ap, ◌∙◌}
use mathlib.Core.Bool.{Bool, true, false, not}
use Rattle.std.specs.List.{filter, count_by}
use Rattle.std.proofs.lemmas.List.Sums.{length-filter}
use mathlib.Core.List.{List, [], ◌∷◌, ◌++◌, map}
use lib.Dec.{eqb}
use lib.ListN.{length, get_or, set, length-append, length-set, length-map}
use lib.Seq.{ext_get_or, get_or-set_same, get_or-set_other}
use Rattle.paper.specs.Lists.{upto, only, keep, member}
use Rattle.paper.proofs.base.Lists.{length_from, cons_eq}
use Rattle.paper.proofs.base.Listed.{get_or_map_upto}
use Rattle.paper.proofs.base.Tests.{by_bool, eqb_true, eqb_false, neq_eqb}
use Rattle.base_question.specs.Standings.{count}

-- those that pass a test are kept
filter_keeps : (p : ℕ → Bool) (l : List ℕ) → filter p l ≡ keep p l
filter_keeps p [] = refl
filter_keeps p (b ∷ l) = by_bool (p b) (λ e. rw e (cons_eq refl (filter_keeps p l))) (λ e. rw e (filter_keeps p l))

pub counts_kept : (p : ℕ → Bool) (l : List ℕ) → count_by p l ≡ length (keep p l)
counts_kept p l = sym (length-filter p l) ∙ ap length (filter_keeps p l)

-- no more than there are
pub length_keep : (p : ℕ → Bool) (l : List ℕ) → length (keep p l) ≤ length l
length_keep p [] = omega arith
length_keep p (b ∷ l) =
    by_bool (p b)
    (λ e. rw e (omega (arith, length_keep p l)))
    (λ e. rw e (omega (arith, length_keep p l)))

module _ (code : ℕ) where
  -- it stands among them, if one of them is it
  pub stands_counted : (l : List ℕ) → member code l ≡ not (eqb (count code l) 0)
  stands_counted [] = refl
  stands_counted (b ∷ l) =
      by_bool (eqb code b)
      (λ e. let n = length (keep (eqb code) l) in rw e (ap not (sym (neq_eqb (suc n) 0 (λ (z : suc n ≡ 0). omega arith)))))
      (λ e. rw e (stands_counted l))

  pub count_append : (l m : List ℕ) → count code (l ++ m) ≡ count code l + count code m
  count_append [] m = omega arith
  count_append (b ∷ l) m =
      let first = only (eqb code b) b in
      omega (arith, count_append l m, length-append first (keep (eqb code) (l ++ m)), length-append first (keep (eqb code) l))

  -- one of the first side, or none
  pub count_left : (l m : List ℕ) → eqb (count code l) 0 ≡ false → eqb (count code (l ++ m)) 0 ≡ false
  count_left l m e =
      neq_eqb (count code (l ++ m)) 0 (λ (z : count code (l ++ m) ≡ 0). eqb_false (count code l) 0 e (omega (arith, count_append l m)))

  pub count_right : (l m : List ℕ) → eqb (count code l) 0 ≡ true → count code (l ++ m) ≡ count code m
  count_right l m e = omega (arith, count_append l m, eqb_true (count code l) 0 e)

-- the counts of the numbers below f are there
module _ (h : ℕ → ℕ) (n : ℕ) where
  pub record Counted (counts : List ℕ) (f : ℕ) : Type 0 where
    pub at_most : f ≤ n
    pub long : length counts ≡ n
    pub there : (g : ℕ) → g < f → get_or counts g 0 ≡ h g

  pub counted_none : (counts : List ℕ) → length counts ≡ n → Counted counts 0
  counted_none counts e = record { at_most = omega arith; long = e; there = λ g k. absurd (omega arith) }

  module _ (counts : List ℕ) (f : ℕ) (t : Counted counts f) where
    pub counted_more : f < n → (x : ℕ) → x ≡ h f → Counted (set counts f x) (f + 1)
    counted_more k x e =
        record {
          at_most = omega arith;
          long = length-set counts f x ∙ t.long;
          there = λ g l.
              by_bool (eqb g f)
              (λ s. let same : g ≡ f = eqb_true g f s in rw (same, get_or-set_same counts f x 0 (omega (arith, t.long))) e)
              (λ s. let other = eqb_false g f s in get_or-set_other counts f g x 0 other ∙ t.there g (omega (arith, other)));
        }

    pub counted_all : n ≤ f → counts ≡ map h (upto n)
    counted_all k =
        ext_get_or 0 counts (map h (upto n)) (t.long ∙ sym (length-map (upto n) h ∙ length_from 0 n))
        (λ g l. t.there g (omega (arith, t.long)) ∙ sym (get_or_map_upto h 0 n g (omega (arith, t.long))))
