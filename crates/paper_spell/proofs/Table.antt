-- The table's rule, by one test that is computed over the whole table, and what it says of each character.
--   own_place   : the table gives a character's shift and value at no other place, so no two entries are alike
--   small_value : its value is one of the 43
--   alone       : where it has no shift, its value is no shift sign
--   shifted     : where it has one, that is a shift sign
--   entry_there : what is looked up and found has this shift and this value
use Prim.Native.Nat.{ℕ, zero, suc, ◌+◌, ◌*◌, ◌≤◌, ◌<◌}
use native.Mathlib.Nat.{add-zero, zero-add}
use native.Mathlib.Omega.{arith}
use mathlib.Core.Path.{◌≡◌, refl, sym}
use mathlib.Core.Bool.{Bool, true, false, cond, not, ◌&&◌}
use mathlib.Core.List.{List, [], ◌∷◌}
use lib.Dec.{ltb, eqb}
use lib.ListN.{length, get_or}
use Rattle.paper.specs.Numbers.{characters}
use Rattle.paper.proofs.base.Tests.{by_bool, cond_by, true_false, and_left, and_right, not_is_true, eqb_true, ltb_true}
use Rattle.paper_spell.specs.FullAscii.{ascii, no_shift, table, shift_of, value_of, is_shift, look_up, character}

-- The test: the character with this shift and this value is found at its own place; the value is one of the 43; a character without a shift is no
-- shift sign, and a shift is one.
abbrev right : ℕ → ℕ → ℕ → Bool
right c s v = eqb (character s v) c && (ltb v characters && cond (eqb s no_shift) (not (is_shift v)) (is_shift s))

abbrev right_from : ℕ → List ℕ → Bool
right_from c [] = true
right_from c (s ∷ []) = false
right_from c (s ∷ v ∷ rest) = right c s v && right_from (suc c) rest

table_right : right_from 0 table ≡ true
unfolding table
table_right = refl

pub table_length : length table ≡ 2 * ascii
unfolding table
table_length = refl

-- at each entry
right_at : (l : List ℕ) (k : ℕ) → right_from k l ≡ true → (c : ℕ) → 2 * c < length l → right (k + c) (get_or l (2 * c) 0) (get_or l (2 * c + 1) 0) ≡ true
right_at [] k e c h = absurd (omega arith)
right_at (s ∷ []) k e c h = absurd (true_false e refl)
right_at (s ∷ v ∷ rest) k e zero h = rw (add-zero k) (and_left (right k s v) (right_from (suc k) rest) e)
right_at (s ∷ v ∷ rest) k e (suc c) h =
    let one : 2 * suc c ≡ suc (suc (2 * c)) = omega arith in
    let two : 2 * suc c + 1 ≡ suc (suc (2 * c + 1)) = omega arith in
    let next : k + suc c ≡ suc k + c = omega arith in
    rw (two, one, next) (right_at rest (suc k) (and_right (right k s v) (right_from (suc k) rest) e) c (omega arith))

module _ (c : ℕ) (h : c < ascii) where
  its_test : right c (shift_of c) (value_of c) ≡ true
  its_test = rw (zero-add c) at (right_at table 0 table_right c (omega (arith, table_length)))

  behind_place : ltb (value_of c) characters && cond (eqb (shift_of c) no_shift) (not (is_shift (value_of c))) (is_shift (shift_of c)) ≡ true
  behind_place = and_right (eqb (character (shift_of c) (value_of c)) c) _ its_test

  kind : cond (eqb (shift_of c) no_shift) (not (is_shift (value_of c))) (is_shift (shift_of c)) ≡ true
  kind = and_right (ltb (value_of c) characters) _ behind_place

  pub own_place : character (shift_of c) (value_of c) ≡ c
  own_place = eqb_true (character (shift_of c) (value_of c)) c (and_left _ _ its_test)

  pub small_value : value_of c < characters
  small_value = ltb_true (value_of c) characters (and_left _ _ behind_place)

  pub alone : eqb (shift_of c) no_shift ≡ true → is_shift (value_of c) ≡ false
  alone e = not_is_true (rw e at kind)

  pub shifted : eqb (shift_of c) no_shift ≡ false → is_shift (shift_of c) ≡ true
  shifted e = rw e at kind

-- What is looked up stands where it is found.
look_up_from : (l : List ℕ) (s v k : ℕ) → k ≤ look_up l s v k
look_up_from [] s v k = omega arith
look_up_from (x ∷ []) s v k = omega arith
look_up_from (x ∷ y ∷ l) s v k =
    cond_by (λ (c : ℕ). k ≤ c) (eqb x s && eqb y v) (λ _. omega arith) (λ _. omega (arith, look_up_from l s v (suc k)))

found : (l : List ℕ) (s v k j : ℕ) → look_up l s v k ≡ k + j → 2 * j + 1 < length l → (get_or l (2 * j) 0 ≡ s) × (get_or l (2 * j + 1) 0 ≡ v)
found [] s v k j e h = absurd (omega arith)
found (x ∷ []) s v k j e h = absurd (omega arith)
found (x ∷ y ∷ l) s v k zero e h =
    by_bool (eqb x s && eqb y v)
    (λ t. (eqb_true x s (and_left (eqb x s) (eqb y v) t), eqb_true y v (and_right (eqb x s) (eqb y v) t)))
    (λ t. absurd (omega (arith, rw t at e, look_up_from l s v (suc k))))
found (x ∷ y ∷ l) s v k (suc j) e h =
    let one : 2 * suc j ≡ suc (suc (2 * j)) = omega arith in
    let two : 2 * suc j + 1 ≡ suc (suc (2 * j + 1)) = omega arith in
    by_bool (eqb x s && eqb y v)
    (λ t. absurd (omega (arith, rw t at e)))
    (λ t. rw (two, one) (found l s v (suc k) j (omega (arith, rw t at e)) (omega arith)))

pub entry_there : (s v : ℕ) → character s v < ascii → (shift_of (character s v) ≡ s) × (value_of (character s v) ≡ v)
entry_there s v h = found table s v 0 (character s v) (sym (zero-add (character s v))) (omega (arith, table_length))
