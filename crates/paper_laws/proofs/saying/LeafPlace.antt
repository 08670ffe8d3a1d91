-- The place of a 16 is the 64th leaf's first byte: a leaf begins at it, and 63 leaves stand before it.
--   leaves_before : judge s ≡ too_many_leaves i → HasLeaves (take i s) most_leaves
--   leaf_begins   : judge s ≡ too_many_leaves i → leaf_code (get_or s i 0) ≡ true
--   good_before   : what the bytes before it are continued to is judged good
-- So many leaves stand before a byte if the bytes before it, with nothing but empty texts behind them, are a pattern of so many leaves
-- (`HasLeaves`).
-- Follows from the ways through the reader (`Reader`), leaf by leaf.
use Prim.Native.Nat.{ℕ, zero, suc, ◌+◌, ◌-◌, ◌<◌}
use native.Mathlib.Omega.{arith}
use mathlib.Core.Path.{◌≡◌, refl, ◌∙◌, subst}
use mathlib.Core.Bool.{Bool, true, false, ◌||◌}
use mathlib.Core.List.{List, [], ◌∷◌, ◌++◌}
use lib.Dec.{ltb, eqb}
use lib.ListN.{get_or, take, get_or-append}
use lib.Seq.{get_or-append-add}
use Rattle.paper.specs.Lists.{all}
use Rattle.paper.specs.Numbers.{most_characters, empty_code, range_code, many_code, most_leaves}
use Rattle.paper.proofs.base.Tests.{by_bool, both_true, left_true, lt_ltb, ltb_true, ltb_false}
use Rattle.paper.proofs.base.Lists.{all_append}
use Rattle.paper.specs.Pattern.{Pattern, empty}
use Rattle.paper.specs.Places.{leaves}
use Rattle.paper.specs.Taken.{leaves_take}
use Rattle.paper.specs.Written.{part, too_many_leaves, judged, judge}
use Rattle.paper.specs.Saying.{pattern_code}
use Rattle.paper_laws.proofs.places.Reader.{Operator, Reads, a_character, empty_text, a_range, both_parts, starred, Judges, above_most, judges}
use Rattle.paper_laws.proofs.places.Judged.{both_leaves, read_takes, starts_length}
use Rattle.paper_laws.proofs.saying.Code.{read_says, code_judged}
use Rattle.paper_laws.proofs.saying.Continued.{Continues, none_continues, first_continues, second_continues, starred_continues}
use Rattle.paper_laws.proofs.saying.Continued.{Parted, parted, parted_behind, parted_at}

-- a character, or a range
abbrev pub leaf_code : ℕ → Bool
leaf_code b = ltb b most_characters || eqb b range_code

-- the bytes continued by empty texts alone, to a pattern of k leaves
pub record HasLeaves (u : List ℕ) (k : ℕ) : Type 0 where
  pub continues : Continues u
  pub empties : all (eqb empty_code) continues.behind ≡ true
  pub count : leaves continues.its ≡ k

none_has : HasLeaves [] 0
none_has = record { continues = none_continues; empties = refl; count = refl }

module _ (u : List ℕ) (k : ℕ) (h : HasLeaves u k) where
  first_has : {code : ℕ} {op : Pattern → Pattern → Pattern} → Operator code op → HasLeaves (code ∷ u) k
  first_has o =
      let c = h.continues in
      record {
        continues = first_continues u c o;
        empties = all_append (eqb empty_code) c.behind (empty_code ∷ []) ∙ both_true h.empties refl;
        count = omega (arith, both_leaves c.its empty o, h.count);
      }

  second_has : {code : ℕ} {op : Pattern → Pattern → Pattern} (a : Pattern) → Operator code op → leaves_take most_characters a
      → HasLeaves (code ∷ pattern_code a ++ u) (leaves a + k)
  second_has a o g =
      record {
        continues = second_continues u h.continues a o g;
        empties = h.empties;
        count = omega (arith, both_leaves a h.continues.its o, h.count);
      }

  starred_has : HasLeaves (many_code ∷ u) k
  starred_has = record { continues = starred_continues u h.continues; empties = h.empties; count = h.count }

-- k leaves stand before b, and a leaf begins at it
abbrev LeafAt : ℕ → List ℕ → ℕ → Type 0
LeafAt k u b = HasLeaves u k × (leaf_code b ≡ true)

behind : (front s : List ℕ) (k j : ℕ) {left : ℕ} → ((u : List ℕ) → HasLeaves u k → HasLeaves (front ++ u) j)
    → Parted (LeafAt k) s left → Parted (LeafAt j) (front ++ s) left
behind front s k j f = parted_behind (LeafAt k) (LeafAt j) front s (λ u b h. (f u h.0, h.1))

leaf_of : {s starts rest : List ℕ} {p : Pattern} → Reads s (part p starts rest) → (k : ℕ) → k < leaves p → Parted (LeafAt k) s (get_or starts k 0)
leaf_of (a_character {b = b} {s = s} h) zero i = parted [] b s refl (none_has, left_true _ _ (lt_ltb b most_characters h))
leaf_of (a_character h) (suc k) i = absurd (omega arith)
leaf_of empty_text k i = absurd (omega arith)
leaf_of (a_range {lo = lo} {hi = hi} {s = s} h g) zero i = parted [] range_code (lo ∷ hi ∷ s) refl (none_has, refl)
leaf_of (a_range h g) (suc k) i = absurd (omega arith)
leaf_of (both_parts {code = code} {s = s} {starts = starts} {r = r} {more = more} {a = a} {b = b} o d e) k i =
    by_bool (ltb k (leaves a))
    (λ (t : ltb k (leaves a) ≡ true).
    let h = ltb_true k (leaves a) t in
    rw (get_or-append starts more 0 k (rw (starts_length d) h)) (behind (code ∷ []) s k k (λ u g. first_has u k g o) (leaf_of d k h)))
    (λ (t : ltb k (leaves a) ≡ false).
    let h = ltb_false k (leaves a) t in
    let j = k - leaves a in
    let k-is : k ≡ leaves a + j = omega arith in
    in_second j k-is (leaf_of e j (omega (arith, both_leaves a b o))))
  where
    in_second : (j : ℕ) → k ≡ leaves a + j → Parted (LeafAt j) r (get_or more j 0) → Parted (LeafAt k) (code ∷ s) (get_or (starts ++ more) k 0)
    in_second j k-is l =
        rw (k-is, ← starts_length d, get_or-append-add starts more j 0, starts_length d, read_says d)
        (behind (code ∷ pattern_code a) r j (leaves a + j) (λ u g. second_has u j g a o (read_takes d)) l)
leaf_of (starred {s = s} d) k i = behind (many_code ∷ []) s k k (λ u g. starred_has u k g) (leaf_of d k i)

too_many_at : {s : List ℕ} {i : ℕ} → Judges s (too_many_leaves i) → LeafAt most_leaves (take i s) (get_or s i 0)
too_many_at {s} (above_most d h) = parted_at (LeafAt most_leaves) s (leaf_of d most_leaves h)

module _ (s : List ℕ) (i : ℕ) (e : judge s ≡ too_many_leaves i) where
  -- 63 leaves stand before the place
  pub leaves_before : HasLeaves (take i s) most_leaves
  leaves_before = (too_many_at (subst (Judges s) e (judges s))).0

  -- and a leaf begins at it
  pub leaf_begins : leaf_code (get_or s i 0) ≡ true
  leaf_begins = (too_many_at (subst (Judges s) e (judges s))).1

  -- what the bytes before it are continued to is judged good
  pub good_before : judge (take i s ++ leaves_before.continues.behind) ≡ judged leaves_before.continues.its
  good_before =
      let c = leaves_before.continues in
      rw (← c.code) (code_judged c.its c.takes (omega (arith, leaves_before.count)))
