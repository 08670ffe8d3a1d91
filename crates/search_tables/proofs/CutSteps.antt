-- A row cut character by character:
--   cut_none : no place takes any of no characters
--   cut_more : one character more
--   cut_less : one more that is not among them
--   cut_room : more characters than there is room for add nothing
-- Follows from the laws of lists by number.
use Prim.Native.Nat.{ℕ, ◌+◌, ◌<◌}
use native.Mathlib.Omega.{arith}
use mathlib.Core.Path.{◌≡◌, sym, ap, ◌∙◌}
use mathlib.Core.Bool.{Bool, true, false, cond, ◌&&◌, and-false}
use mathlib.Core.List.{List}
use lib.Dec.{leb, ltb, eqb}
use lib.ListN.{get_or, set, replicate, length-replicate, get_or-replicate}
use Rattle.paper.specs.Numbers.{most_characters}
use Rattle.paper.proofs.base.Tests.{by_bool, same_tests, cond_true, cond_false, lt_ltb, le_ltb, ltb_true, leb_false, eqb_true, eqb_false}
use Rattle.base_places.specs.Masks.{within}
use Rattle.search_tables.specs.Cut.{cut_row}
use Rattle.search_tables.proofs.Listed.{is_listed, listed_same, listed_set}

module _ (among : List Bool) (row : List ℕ) where
  -- what is taken of the character c, where n of them are cut
  abbrev taken : ℕ → ℕ → ℕ
  taken n c = cond (ltb c n && get_or among c false) (get_or row c 0) 0

  pub cut_none : replicate most_characters 0 ≡ cut_row 0 among row
  unfolding cut_row
  cut_none =
      is_listed 0 (taken 0) most_characters (replicate most_characters 0) (length-replicate {A = ℕ} most_characters 0)
      (λ c k. get_or-replicate most_characters c 0 0 k ∙ sym (rw (le_ltb c 0 (omega arith))))

  pub cut_more : (c x : ℕ) → c < most_characters → x ≡ cond (get_or among c false) (get_or row c 0) 0
      → set (cut_row c among row) c x ≡ cut_row (c + 1) among row
  unfolding cut_row
  cut_more c x h e =
      listed_set 0 (taken (c + 1)) most_characters (taken c) c x h
      (λ j. by_bool (eqb j c)
      (λ (s : eqb j c ≡ true).
      let same : j ≡ c = eqb_true j c s in
      cond_true (eqb j c) x (taken c j) s ∙ e ∙ sym (rw (same, lt_ltb c (c + 1) (omega arith))))
      (λ (s : eqb j c ≡ false).
      let other = eqb_false j c s in
      cond_false (eqb j c) x (taken c j) s
      ∙ ap (λ (b : Bool). cond (b && get_or among j false) (get_or row j 0) 0)
      (same_tests (ltb j c) (ltb j (c + 1))
      (λ t. lt_ltb j (c + 1) (omega (arith, ltb_true j c t)))
      (λ t. lt_ltb j c (omega (arith, ltb_true j (c + 1) t, other))))))

  pub cut_less : (c : ℕ) → get_or among c false ≡ false → cut_row c among row ≡ cut_row (c + 1) among row
  unfolding cut_row
  cut_less c e =
      listed_same 0 (taken (c + 1)) most_characters (taken c)
      (λ j k. by_bool (eqb j c)
      (λ (s : eqb j c ≡ true). rw (eqb_true j c s, e, and-false, and-false))
      (λ (s : eqb j c ≡ false).
      let other = eqb_false j c s in
      ap (λ (b : Bool). cond (b && get_or among j false) (get_or row j 0) 0)
      (same_tests (ltb j c) (ltb j (c + 1))
      (λ t. lt_ltb j (c + 1) (omega (arith, ltb_true j c t)))
      (λ t. lt_ltb j c (omega (arith, ltb_true j (c + 1) t, other))))))

  pub cut_room : (n : ℕ) → cut_row (within n) among row ≡ cut_row n among row
  unfolding cut_row within
  cut_room n =
      listed_same 0 (taken n) most_characters (taken (within n))
      (λ c k. by_bool (leb n most_characters)
      (λ (e : leb n most_characters ≡ true). rw e)
      (λ (e : leb n most_characters ≡ false).
      rw (e, lt_ltb c most_characters k, lt_ltb c n (omega (arith, leb_false n most_characters e)))))
