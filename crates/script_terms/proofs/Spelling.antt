-- What `spelt_at` gives by the byte at the offset, and what the code tells of it, part by part.
--   spelt_on : the offset behind a spelling is not below the one at which it begins
--   at_end, as_single, as_many, as_two : the ways through
-- Follows from the tests of `spelt_at` and from the laws of bytes put one behind the other.
use Prim.Native.Nat.{ℕ, zero, suc, ◌+◌, ◌≤◌, ◌<◌}
use native.Mathlib.Omega.{arith}
use mathlib.Core.Path.{◌≡◌, refl}
use mathlib.Core.List.{List, [], ◌∷◌}
use lib.Dec.{leb, ltb, eqb}
use lib.ListN.{length, get_or}
use Rattle.paper.specs.Numbers.{empty_code, range_code, then_code, or_code, many_code}
use Rattle.paper.specs.Alphabet.{Edition}
use Rattle.paper.proofs.base.Tests.{by_bool, cond_by, le_leb, lt_leb, leb_true, leb_false, eq_eqb, neq_eqb, eqb_false}
use Rattle.paper_script.specs.Bytes.{bytes}
use Rattle.base_put.specs.Counted.{Counted}
use Rattle.base_put.proofs.Counting.{counted_none, counted_then}
use Rattle.script_terms.specs.Spelt.{TermSpelling, range_spelling, single_spelling, spelt_at, operator_opened, Spells}
use Rattle.script_terms.specs.declared.Spelt.{Spelt}

abbrev From : ℕ → TermSpelling → Type 0
From i x = i ≤ x.next

at_or : (b : ℕ) → then_code ≤ b → b ≤ or_code → (b ≡ then_code → ⊥) → b ≡ or_code
at_or b x y n = by_bool (leb or_code b) (λ e. let k = leb_true or_code b e in omega arith) (λ e. let k = leb_false or_code b e in absurd (n (omega arith)))

module _ (ed : Edition) where
  range_on : (s : List ℕ) (i : ℕ) → i < length s → From i (range_spelling ed s i)
  range_on s i h = cond_by (From i) (ltb (length s) (i + 3)) (λ _. omega arith) (λ _. omega arith)

  single_on : (s : List ℕ) (i : ℕ) → i < length s → From i (single_spelling ed s i)
  single_on s i h =
      cond_by (From i) (eqb (get_or s i 0) range_code) (λ _. range_on s i h)
      (λ _. cond_by (From i) (eqb (get_or s i 0) empty_code) (λ _. omega arith) (λ _. omega arith))

  pub spelt_on : (n : ℕ) (s : List ℕ) (i : ℕ) → i ≤ (spelt_at ed n s i).next
  spelt_on zero s i = omega arith
  spelt_on (suc n) s i =
      let a = spelt_at ed n s (i + 1) in
      let first = spelt_on n s (i + 1) in
      let second = spelt_on n s a.next in
      cond_by (From i) (leb (length s) i) (λ _. omega arith)
      (λ e. cond_by (From i) (eqb (get_or s i 0) many_code) (λ _. omega arith)
      (λ _. cond_by (From i) (eqb (get_or s i 0) then_code) (λ _. omega arith)
      (λ _. cond_by (From i) (eqb (get_or s i 0) or_code) (λ _. omega arith)
      (λ _. single_on s i (leb_false (length s) i e)))))

  pub at_end : (n : ℕ) (s : List ℕ) (i : ℕ) {d : List ℕ} {at : ℕ} → length s ≤ i → Spells d d at (record { end = at; next = i }) (spelt_at ed n s i)
  at_end zero s i h = record { puts = counted_none; goes_on = refl }
  at_end (suc n) s i h = rw (le_leb (length s) i h) (record { puts = counted_none; goes_on = refl })

  module _ (s : List ℕ) (i : ℕ) (there : i < length s) where
    pub as_single : (n : ℕ) {d e : List ℕ} {at : ℕ} {r : Spelt} → length s ≤ i + n
        → (get_or s i 0 ≡ many_code → ⊥) → (get_or s i 0 ≡ then_code → ⊥) → (get_or s i 0 ≡ or_code → ⊥)
        → Spells d e at r (single_spelling ed s i) → Spells d e at r (spelt_at ed n s i)
    as_single zero h x y z p = absurd (omega arith)
    as_single (suc n) h x y z p =
        rw (lt_leb (length s) i there, neq_eqb (get_or s i 0) many_code x, neq_eqb (get_or s i 0) then_code y, neq_eqb (get_or s i 0) or_code z) p

    pub as_many : (n : ℕ) {d e f g : List ℕ} {at begun end : ℕ} {a : Spelt} → length s ≤ i + n → get_or s i 0 ≡ many_code
        → Counted d e at begun (bytes "(re.* ") → ((m : ℕ) → length s ≤ i + 1 + m → Spells e f begun a (spelt_at ed m s (i + 1)))
        → Counted f g a.end end (41 ∷ []) → Spells d g at (record { end = end; next = a.next }) (spelt_at ed n s i)
    as_many zero h x p q z = absurd (omega arith)
    as_many (suc n) h x p q z =
        rw (lt_leb (length s) i there, eq_eqb (get_or s i 0) many_code x)
        (record { puts = counted_then (counted_then p (q n (omega arith)).puts) z; goes_on = (q n (omega arith)).goes_on })

    -- the second part begins where the first ended
    pub behind_first : (n : ℕ) {e f : List ℕ} {begun : ℕ} {a : Spelt} → ((m : ℕ) → length s ≤ i + 1 + m → Spells e f begun a (spelt_at ed m s (i + 1)))
        → length s ≤ i + 1 + n → i < a.next
    behind_first n q h = omega (arith, (q n h).goes_on, spelt_on n s (i + 1))

    pub as_two : (n : ℕ) {d e f g k l : List ℕ} {at begun gap end : ℕ} {a b : Spelt} → length s ≤ i + n
        → then_code ≤ get_or s i 0 → get_or s i 0 ≤ or_code
        → Counted d e at begun (operator_opened (get_or s i 0)) → ((m : ℕ) → length s ≤ i + 1 + m → Spells e f begun a (spelt_at ed m s (i + 1)))
        → Counted f g a.end gap (32 ∷ []) → ((m : ℕ) → length s ≤ a.next + m → Spells g k gap b (spelt_at ed m s a.next))
        → Counted k l b.end end (41 ∷ []) → Spells d l at (record { end = end; next = b.next }) (spelt_at ed n s i)
    as_two zero h x y p q w v z = absurd (omega arith)
    as_two (suc n) {a = a} h x y p q w v z =
        let first = q n (omega arith) in
        let on = spelt_on n s (i + 1) in
        let second = rw first.goes_on at (v n (omega (arith, first.goes_on))) in
        by_bool (eqb (get_or s i 0) then_code)
        (λ t. rw (lt_leb (length s) i there, neq_eqb (get_or s i 0) many_code (λ (m : get_or s i 0 ≡ many_code). omega arith), t)
        (record {
          puts = counted_then (counted_then (counted_then (rw t at p) first.puts) (counted_then w second.puts)) z;
          goes_on = second.goes_on;
        }))
        (λ t. let other = eqb_false (get_or s i 0) then_code t in
        let is_or : get_or s i 0 ≡ or_code = at_or (get_or s i 0) x y other in
        rw (lt_leb (length s) i there, neq_eqb (get_or s i 0) many_code (λ (m : get_or s i 0 ≡ many_code). omega arith), t, eq_eqb (get_or s i 0) or_code is_or)
        (record {
          puts = counted_then (counted_then (counted_then (rw t at p) first.puts) (counted_then w second.puts)) z;
          goes_on = second.goes_on;
        }))
