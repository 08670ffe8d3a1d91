-- One turn of each loop: the places that take one more character, the places that lead to a set, the first character that passes, the length that is
-- asked for. Follows from the definitions, by cases on their tests.
use Prim.Native.Nat.{ℕ, zero, suc, ◌+◌, ◌^◌, ◌≤◌, ◌<◌}
use native.Mathlib.Numerals.{add-one}
use native.Mathlib.Omega.{arith}
use mathlib.Core.Path.{◌≡◌, refl, sym, ap, ◌∙◌}
use mathlib.Core.Bool.{Bool, true, false, cond, ◌&&◌, ◌||◌, or-false, and-true, and-false}
use mathlib.Core.List.{List, [], ◌∷◌}
use lib.Bits.{bit_and, bit_or}
use lib.Dec.{leb, ltb, eqb}
use lib.ListN.{length, get_or, set}
use lib.Seq.{get_or-set_same, get_or-set_other}
use Rattle.paper.specs.Lists.{from, upto, any, keep}
use Rattle.paper.proofs.base.Tests.{by_bool, cond_true, cond_false, same_tests, le_leb, lt_leb, lt_ltb, le_ltb, ltb_true, eqb_true, eqb_false}
use Rattle.paper.proofs.base.Lists.{cons_eq, any_append}
use Rattle.paper.proofs.base.Listed.{upto_snoc}
use Rattle.paper_decide.specs.OneText.{one_from, lengths_tried}
use Rattle.base_places.specs.Masks.{places, mask_of, in_mask, followers_of}
use Rattle.base_places.specs.declared.PlaceTables.{PlaceTables}
use Rattle.base_places.proofs.MaskOf.{mask_of_same, mask_of_or, mask_of_cond, mask_of_none, mask_of_digits}
use Rattle.decide_texts.specs.declared.Ends.{Ends}
use Rattle.decide_texts.specs.TextsCoded.{meets, start, taken_by, leading_to, ending, length_coded, EndingsOf, first_to, text_from, spelt_tables, text_tables}

-- below one more, of a number that is not that one
pub ltb_other : (j n : ℕ) → (j ≡ n → ⊥) → ltb j (n + 1) ≡ ltb j n
ltb_other j n h =
    same_tests (ltb j (n + 1)) (ltb j n) (λ e. let l = ltb_true j (n + 1) e in lt_ltb j n (omega arith))
    (λ e. let l = ltb_true j n e in lt_ltb j (n + 1) (omega arith))

-- some number below one more passes
any_more : (t : ℕ → Bool) (n : ℕ) → any t (upto n) || t n ≡ any t (upto (n + 1))
any_more t n =
    sym
    (ap (λ (k : ℕ). any t (upto k)) (add-one n)
    ∙ ap (any t) (upto_snoc n)
    ∙ any_append t (upto n) (n ∷ [])
    ∙ ap (λ (b : Bool). any t (upto n) || b) (or-false (t n)))

-- the places that take a character
module _ (taking : List ℕ) where
  pub taken_none : 0 ≡ taken_by 0 taking
  unfolding taken_by
  taken_none = sym mask_of_none

  pub taken_more : (c : ℕ) → get_or taking c 0 < 2 ^ places → bit_or (taken_by c taking) (get_or taking c 0) ≡ taken_by (c + 1) taking
  unfolding taken_by
  taken_more c h =
      let m = get_or taking c 0 in
      let takes : ℕ → ℕ → Bool = λ (p x : ℕ). in_mask (get_or taking x 0) p in
      ap (bit_or (taken_by c taking)) (sym (mask_of_digits m h))
      ∙ mask_of_or (λ (p : ℕ). any (takes p) (upto c)) (λ (p : ℕ). takes p c)
      ∙ mask_of_same (λ (p : ℕ). any (takes p) (upto c) || takes p c) (λ (p : ℕ). any (takes p) (upto (c + 1))) (λ p l. any_more (takes p) c)

-- the places below n that lead to the set
module _ (follow : List ℕ) (set : ℕ) where
  abbrev leads_on : ℕ → Bool
  leads_on i = meets (get_or follow i 0) set

  pub leading_below : ℕ → ℕ
  leading_below n = mask_of (λ (i : ℕ). ltb i n && leads_on i)

  pub leading_none : 0 ≡ leading_below 0
  unfolding leading_below
  leading_none =
      sym
      (mask_of_same (λ (i : ℕ). ltb i 0 && leads_on i) (λ (i : ℕ). false) (λ i l. ap (λ (b : Bool). b && leads_on i) (le_ltb i 0 (omega arith)))
      ∙ mask_of_none)

  one_place : (n i : ℕ) → (ltb i n && leads_on i) || (leads_on n && eqb n i) ≡ ltb i (n + 1) && leads_on i
  one_place n i =
      by_bool (eqb n i)
      (λ (e : eqb n i ≡ true).
      let same : n ≡ i = eqb_true n i e in
      rw (le_ltb i n (omega arith), e, lt_ltb i (n + 1) (omega arith), and-true (leads_on n)) (ap leads_on same))
      (λ (e : eqb n i ≡ false).
      rw (e, and-false (leads_on n), or-false (ltb i n && leads_on i))
      (ap (λ (b : Bool). b && leads_on i) (sym (ltb_other i n (λ (z : i ≡ n). eqb_false n i e (sym z))))))

  pub leading_more : (n : ℕ) → bit_or (leading_below n) (cond (leads_on n) (mask_of (λ (q : ℕ). eqb n q)) 0) ≡ leading_below (n + 1)
  unfolding leading_below
  leading_more n =
      ap (bit_or (leading_below n)) (mask_of_cond (λ (q : ℕ). eqb n q) (leads_on n))
      ∙ mask_of_or (λ (i : ℕ). ltb i n && leads_on i) (λ (i : ℕ). leads_on n && eqb n i)
      ∙ mask_of_same (λ (i : ℕ). (ltb i n && leads_on i) || (leads_on n && eqb n i)) (λ (i : ℕ). ltb i (n + 1) && leads_on i) (λ i l. one_place n i)

  pub leading_all : leading_below places ≡ leading_to follow set
  unfolding leading_below leading_to
  leading_all =
      mask_of_same (λ (i : ℕ). ltb i places && leads_on i) leads_on (λ i l. ap (λ (b : Bool). b && leads_on i) (lt_ltb i places l))

-- one character more, before a text that may end
pub ending_more : (follow : List ℕ) (taken last k : ℕ) → leading_to follow (bit_and taken (ending follow taken last k)) ≡ ending follow taken last (k + 1)
unfolding ending
ending_more follow taken last k = rw (add-one k)

-- numbers from a on, m of them
module _ (t : ℕ → Bool) (a : ℕ) where
  -- the first that passes
  pub first_here : (m : ℕ) → 0 < m → t a ≡ true → get_or (keep t (from a m)) 0 0 ≡ a
  first_here zero h e = absurd (omega arith)
  first_here (suc m) h e = rw e

  pub first_behind : (m : ℕ) → t a ≡ false → get_or (keep t (from a (suc m))) 0 0 ≡ get_or (keep t (from (a + 1) m)) 0 0
  first_behind m e = rw (e, add-one a)

  -- the first of n or more among those that pass, or the last
  module _ (x n : ℕ) where
    pub one_here : (m : ℕ) → 0 < m → t a ≡ true → n ≤ a → one_from x (keep t (from a m)) n ≡ a
    one_here zero h e l = absurd (omega arith)
    one_here (suc m) h e l = rw e (cond_true (leb n a) a (one_from a (keep t (from (suc a) m)) n) (le_leb n a l))

    pub one_behind : (m : ℕ) → t a ≡ true → a < n → one_from x (keep t (from a (suc m))) n ≡ one_from a (keep t (from (a + 1) m)) n
    one_behind m e l = rw (e, add-one a) (cond_false (leb n a) a (one_from a (keep t (from (suc a) m)) n) (lt_leb n a l))

    pub one_not : (m : ℕ) → t a ≡ false → one_from x (keep t (from a (suc m))) n ≡ one_from x (keep t (from (a + 1) m)) n
    one_not m e = rw (e, add-one a)

-- one more stored behind those that are there
pub ends_more : (f : ℕ → ℕ) (d : List ℕ) (k x : ℕ) → k < length d → x ≡ f k → ((j : ℕ) → j < k → get_or d j 0 ≡ f j)
    → (j : ℕ) → j < k + 1 → get_or (set d k x) j 0 ≡ f j
ends_more f d k x l e h j m =
    by_bool (eqb j k)
    (λ (y : eqb j k ≡ true). let same : j ≡ k = eqb_true j k y in rw same (get_or-set_same d k x 0 l ∙ e))
    (λ (y : eqb j k ≡ false).
    let other : j ≡ k → ⊥ = eqb_false j k y in
    get_or-set_other d k j x 0 other ∙ h j (omega arith))

-- the text from a set on: its next character, and the text behind it
module _ (n : ℕ) (follow taking : List ℕ) where
  pub text_more : (ends : ℕ → ℕ) (left k set next c : ℕ) → left ≡ suc k → next ≡ followers_of follow set → c ≡ first_to n taking next (ends k)
      → text_from n follow taking ends left set ≡ c ∷ text_from n follow taking ends k (bit_and next (get_or taking c 0))
  unfolding text_from
  text_more ends left k set next c e f g = rw (e, g, f)

  pub text_none : (ends : ℕ → ℕ) (left set : ℕ) → left ≡ 0 → text_from n follow taking ends left set ≡ []
  unfolding text_from
  text_none ends left set e = rw e

  -- it looks at what is below its length alone
  pub text_same : (e f : ℕ → ℕ) (k set : ℕ) → ((j : ℕ) → j < k → e j ≡ f j) → text_from n follow taking e k set ≡ text_from n follow taking f k set
  unfolding text_from
  text_same e f zero set h = refl
  text_same e f (suc k) set h =
      let next = followers_of follow set in
      let c = first_to n taking next (f k) in
      rw (h k (omega arith)) (cons_eq refl (text_same e f k (bit_and next (get_or taking c 0)) (λ j l. h j (omega arith))))

-- what is worked out of a field, whose text has k characters, or which has none
module _ (n asked : ℕ) (t : PlaceTables) (taken : ℕ) (u : taken ≡ taken_by n t.taking) where
  abbrev ends : ℕ → ℕ
  ends = ending t.follow taken t.last

  text_by : (k : ℕ) → k ≡ length_coded ends asked
      → text_tables n asked t ≡ cond (ltb k lengths_tried) (spelt_tables (text_from n t.follow t.taking ends k start)) t
  unfolding text_tables
  text_by k e = rw (e, u)

  pub one_text : (its : Ends) → EndingsOf ends asked its.length its.ends → its.length < lengths_tried
      → spelt_tables (text_from n t.follow t.taking (λ (j : ℕ). get_or its.ends j 0) its.length start) ≡ text_tables n asked t
  one_text its x h =
      let k = its.length in
      ap spelt_tables (text_same n t.follow t.taking (λ (j : ℕ). get_or its.ends j 0) ends k start x.shorter)
      ∙ sym (text_by k x.its_length ∙ cond_true (ltb k lengths_tried) (spelt_tables (text_from n t.follow t.taking ends k start)) t (lt_ltb k lengths_tried h))

  pub no_one_text : lengths_tried ≤ length_coded ends asked → t ≡ text_tables n asked t
  no_one_text h =
      let k = length_coded ends asked in
      sym (text_by k refl ∙ cond_false (ltb k lengths_tried) (spelt_tables (text_from n t.follow t.taking ends k start)) t (le_ltb k lengths_tried h))
