-- The tables of one text: from its start the place of each character is followed by the next one, each takes its character, the last one may be the
-- last. A text that has one more character has one place more:
--   spelt_more : the tables of w ++ (c ∷ []) are those of w with that place
--   Spelling   : the tables of the characters gone through, and those still to come; none yet, one more, all
-- Follows from `follows`, `leaf_takes` and `ends_at` of a pattern that is spelt out, by induction on the text.
use Prim.Native.Nat.{ℕ, zero, suc, ◌+◌, ◌≤◌, ◌<◌}
use native.Mathlib.Nat.{add-zero}
use native.Mathlib.Omega.{arith}
use mathlib.Core.Path.{◌≡◌, refl, sym, ap, ap₂, ◌∙◌}
use mathlib.Core.Bool.{Bool, true, false, ◌&&◌, ◌||◌, or-false, or_assoc, and-true, and-false}
use mathlib.Core.List.{List, [], ◌∷◌, ◌++◌, append-nil, append_assoc}
use lib.Bits.{bit_or}
use lib.Dec.{leb, ltb, eqb, eqb-zero-suc, eqb-suc-zero}
use lib.ListN.{length, get_or, set, length-append, length-set}
use lib.Seq.{ext_get_or, get_or-set_same, get_or-set_other}
use Rattle.paper.specs.Numbers.{most_characters}
use Rattle.paper.specs.Pattern.{pattern}
use Rattle.paper.specs.Places.{takes_empty, may_be_first, may_be_last, may_follow, leaf_takes, follows, ends_at}
use Rattle.paper.proofs.base.Tests.{by_bool, same_tests, le_leb, lt_leb, leb_true, lt_ltb, le_ltb, eqb_true, eqb_false, eqb_same, neq_eqb}
use Rattle.paper_decide.specs.OneText.{spelt_out}
use Rattle.base_places.specs.Masks.{places, mask_of, table, follow_masks, taking_mask, taking_masks, last_mask}
use Rattle.base_places.specs.declared.PlaceTables.{PlaceTables}
use Rattle.base_places.proofs.MaskOf.{mask_of_same, mask_of_or}
use Rattle.base_places.proofs.Filling.{length_table, get_or_table}
use Rattle.decide_texts.specs.TextsCoded.{spelt_tables}
use Rattle.decide_texts.proofs.TextTurns.{ltb_other}

-- a text's first place, at o, and the rest behind it
not_empty : (c : ℕ) (w : List ℕ) → takes_empty (spelt_out (c ∷ w)) ≡ false
not_empty c [] = refl
not_empty c (d ∷ w) = refl

first_at : (c : ℕ) (w : List ℕ) (o q : ℕ) → may_be_first (spelt_out (c ∷ w)) o q ≡ eqb o q
first_at c [] o q = refl
first_at c (d ∷ w) o q = or-false (eqb o q)

last_at : (c : ℕ) (w : List ℕ) (o p : ℕ) → may_be_last (spelt_out (c ∷ w)) o p ≡ eqb (o + length w) p
last_at c [] o p = ap (λ (x : ℕ). eqb x p) (sym (add-zero o))
last_at c (d ∷ w) o p =
    ap (λ (b : Bool). may_be_last (spelt_out (d ∷ w)) (o + 1) p || (b && eqb o p)) (not_empty d w)
    ∙ or-false (may_be_last (spelt_out (d ∷ w)) (o + 1) p)
    ∙ last_at d w (o + 1) p
    ∙ ap (λ (x : ℕ). eqb x p) (let e : o + 1 + length w ≡ o + suc (length w) = omega arith in e)

-- between the first place and the last one each is followed by the next
between : ℕ → ℕ → ℕ → ℕ → Bool
between o n p q = (leb o p && ltb p (o + n)) && eqb (suc p) q

between_none : (o p q : ℕ) → false ≡ between o 0 p q
unfolding between
between_none o p q =
    by_bool (leb o p)
    (λ (e : leb o p ≡ true). let l = leb_true o p e in rw (e, le_ltb p (o + 0) (omega arith)))
    (λ e. rw e)

between_more : (o n p q : ℕ) → between (o + 1) n p q || (eqb o p && eqb (o + 1) q) ≡ between o (suc n) p q
unfolding between
between_more o n p q =
    by_bool (eqb o p)
    (λ (e : eqb o p ≡ true).
    let same : o ≡ p = eqb_true o p e in
    let next : o + 1 ≡ suc p = omega arith in
    rw (e, lt_leb (o + 1) p (omega arith), le_leb o p (omega arith), lt_ltb p (o + suc n) (omega arith)) (ap (λ (x : ℕ). eqb x q) next))
    (λ (e : eqb o p ≡ false).
    let other : o ≡ p → ⊥ = eqb_false o p e in
    let low : leb (o + 1) p ≡ leb o p =
    same_tests (leb (o + 1) p) (leb o p) (λ k. let l = leb_true (o + 1) p k in le_leb o p (omega arith))
    (λ k. let l = leb_true o p k in le_leb (o + 1) p (omega arith)) in
    let high : o + 1 + n ≡ o + suc n = omega arith in
    rw (e, low, high) (or-false ((leb o p && ltb p (o + suc n)) && eqb (suc p) q)))

between_one : (n p q : ℕ) → 1 ≤ p → between 1 n p q ≡ ltb p (suc n) && eqb (suc p) q
unfolding between
between_one n p q h = let e : 1 + n ≡ suc n = omega arith in rw (le_leb 1 p h, e)

follow_at : (c : ℕ) (w : List ℕ) (o p q : ℕ) → may_follow (spelt_out (c ∷ w)) o p q ≡ between o (length w) p q
follow_at c [] o p q = between_none o p q
follow_at c (d ∷ w) o p q =
    ap₂ (λ (a b : Bool). a || (eqb o p && b)) (follow_at d w (o + 1) p q) (first_at d w (o + 1) q) ∙ between_more o (length w) p q

takes_at : (c : ℕ) (w : List ℕ) (o q d : ℕ) → leaf_takes (spelt_out (c ∷ w)) o q d ≡ (eqb o q && eqb c d) || leaf_takes (spelt_out w) (o + 1) q d
takes_at c [] o q d = sym (or-false (eqb o q && eqb c d))
takes_at c (e ∷ w) o q d = refl

-- the places of a text, the start being 0
follows_is : (w : List ℕ) (i q : ℕ) → follows (spelt_out w) i q ≡ ltb i (length w) && eqb (suc i) q
follows_is [] zero q = refl
follows_is [] (suc i) q = ap (λ (b : Bool). b && eqb (suc (suc i)) q) (sym (le_ltb (suc i) 0 (omega arith)))
follows_is (c ∷ w) zero q = first_at c w 1 q ∙ ap (λ (b : Bool). b && eqb 1 q) (sym (lt_ltb 0 (suc (length w)) (omega arith)))
follows_is (c ∷ w) (suc i) q = follow_at c w 1 (suc i) q ∙ between_one (length w) (suc i) q (omega arith)

ends_is : (w : List ℕ) (i : ℕ) → ends_at (pattern (spelt_out w)) i ≡ eqb (length w) i
ends_is [] zero = refl
ends_is [] (suc i) = sym (eqb-zero-suc i)
ends_is (c ∷ w) zero = not_empty c w ∙ sym (eqb-suc-zero (length w))
ends_is (c ∷ w) (suc i) = last_at c w 1 (suc i) ∙ ap (λ (x : ℕ). eqb x (suc i)) (let e : 1 + length w ≡ suc (length w) = omega arith in e)

-- one character more
takes_more : (w : List ℕ) (c o q d : ℕ)
    → leaf_takes (spelt_out (w ++ (c ∷ []))) o q d ≡ leaf_takes (spelt_out w) o q d || (eqb (o + length w) q && eqb c d)
takes_more [] c o q d = ap (λ (x : ℕ). eqb x q && eqb c d) (sym (add-zero o))
takes_more (a ∷ w) c o q d =
    let its = eqb o q && eqb a d in
    let rest = leaf_takes (spelt_out w) (o + 1) q d in
    let last = eqb (o + suc (length w)) q && eqb c d in
    takes_at a (w ++ (c ∷ [])) o q d
    ∙ ap (λ (b : Bool). its || b)
    (takes_more w c (o + 1) q d
    ∙ ap (λ (x : ℕ). rest || (eqb x q && eqb c d)) (let e : o + 1 + length w ≡ o + suc (length w) = omega arith in e))
    ∙ sym (or_assoc its rest last)
    ∙ ap (λ (b : Bool). b || last) (sym (takes_at a w o q d))

length_more : (w : List ℕ) (c : ℕ) → length (w ++ (c ∷ [])) ≡ length w + 1
length_more w c = length-append w (c ∷ [])

-- a table with one number changed
table_set : (f g : ℕ → ℕ) (n i x : ℕ) → i < n → x ≡ g i → ((j : ℕ) → (j ≡ i → ⊥) → f j ≡ g j) → set (table f n) i x ≡ table g n
table_set f g n i x h e others =
    ext_get_or 0 (set (table f n) i x) (table g n) (length-set (table f n) i x ∙ length_table f n ∙ sym (length_table g n))
    (λ j l.
    let b : j < n = omega (arith, length-set (table f n) i x, length_table f n) in
    by_bool (eqb j i)
    (λ (s : eqb j i ≡ true).
    let same : j ≡ i = eqb_true j i s in
    rw same (get_or-set_same (table f n) i x 0 (omega (arith, length_table f n)) ∙ e ∙ sym (get_or_table g n i h)))
    (λ (s : eqb j i ≡ false).
    let other : j ≡ i → ⊥ = eqb_false j i s in
    get_or-set_other (table f n) i j x 0 other ∙ get_or_table f n j b ∙ others j other ∙ sym (get_or_table g n j b)))

-- tables with one place more, behind the place `at`, that takes c and may be the last
abbrev pub with_place : PlaceTables → ℕ → ℕ → ℕ → PlaceTables
with_place t at c its =
    record {
      follow = set t.follow at its;
      taking = set t.taking c (bit_or (get_or t.taking c 0) its);
      last = its;
    }

-- the place behind those of the text
abbrev pub place_behind : List ℕ → ℕ
place_behind w = mask_of (λ (q : ℕ). eqb (length w + 1) q)

module _ (w : List ℕ) (c : ℕ) where
  abbrev more : List ℕ
  more = w ++ (c ∷ [])

  row : List ℕ → ℕ → ℕ
  row v i = mask_of (λ (q : ℕ). follows (spelt_out v) i q)

  row_here : place_behind w ≡ row more (length w)
  unfolding row
  row_here =
      let next : suc (length w) ≡ length w + 1 = omega arith in
      mask_of_same (λ (q : ℕ). eqb (length w + 1) q) (λ (q : ℕ). follows (spelt_out more) (length w) q)
      (λ q l.
      sym
      (follows_is more (length w) q
      ∙ rw (length_more w c, lt_ltb (length w) (length w + 1) (omega arith)) (ap (λ (x : ℕ). eqb x q) next)))

  row_other : (i : ℕ) → (i ≡ length w → ⊥) → row w i ≡ row more i
  unfolding row
  row_other i h =
      mask_of_same (λ (q : ℕ). follows (spelt_out w) i q) (λ (q : ℕ). follows (spelt_out more) i q)
      (λ q l.
      follows_is w i q
      ∙ ap (λ (b : Bool). b && eqb (suc i) q) (sym (ap (ltb i) (length_more w c) ∙ ltb_other i (length w) h))
      ∙ sym (follows_is more i q))

  follow_more : length w < places → set (spelt_tables w).follow (length w) (place_behind w) ≡ (spelt_tables more).follow
  unfolding spelt_tables follow_masks row
  follow_more h = table_set (row w) (row more) places (length w) (place_behind w) h row_here row_other

  last_more : place_behind w ≡ (spelt_tables more).last
  unfolding spelt_tables last_mask
  last_more =
      mask_of_same (λ (q : ℕ). eqb (length w + 1) q) (λ (i : ℕ). ends_at (pattern (spelt_out more)) i)
      (λ q l. sym (ends_is more q ∙ ap (λ (x : ℕ). eqb x q) (length_more w c)))

  -- what takes a character: for the new one its place is added
  takes : List ℕ → ℕ → ℕ
  takes v d = mask_of (λ (q : ℕ). leaf_takes (spelt_out v) 1 q d)

  takes_here : bit_or (takes w c) (place_behind w) ≡ takes more c
  unfolding takes
  takes_here =
      mask_of_or (λ (q : ℕ). leaf_takes (spelt_out w) 1 q c) (λ (q : ℕ). eqb (length w + 1) q)
      ∙ mask_of_same (λ (q : ℕ). leaf_takes (spelt_out w) 1 q c || eqb (length w + 1) q) (λ (q : ℕ). leaf_takes (spelt_out more) 1 q c)
      (λ q l.
      let next : length w + 1 ≡ 1 + length w = omega arith in
      sym (takes_more w c 1 q c ∙ rw (eqb_same c, and-true (eqb (1 + length w) q), next)))

  takes_other : (d : ℕ) → (d ≡ c → ⊥) → takes w d ≡ takes more d
  unfolding takes
  takes_other d h =
      mask_of_same (λ (q : ℕ). leaf_takes (spelt_out w) 1 q d) (λ (q : ℕ). leaf_takes (spelt_out more) 1 q d)
      (λ q l. sym (takes_more w c 1 q d ∙ rw (neq_eqb c d (λ (z : c ≡ d). h (sym z)), and-false (eqb (1 + length w) q)) (or-false (leaf_takes (spelt_out w) 1 q d))))

  taking_more : c < most_characters → set (spelt_tables w).taking c (bit_or (get_or (spelt_tables w).taking c 0) (place_behind w)) ≡ (spelt_tables more).taking
  unfolding spelt_tables taking_masks taking_mask takes
  taking_more h =
      table_set (takes w) (takes more) most_characters c (bit_or (get_or (table (takes w) most_characters) c 0) (place_behind w)) h
      (ap (λ (m : ℕ). bit_or m (place_behind w)) (get_or_table (takes w) most_characters c h) ∙ takes_here) takes_other

  pub spelt_more : length w < places → c < most_characters → with_place (spelt_tables w) (length w) c (place_behind w) ≡ spelt_tables more
  spelt_more h k = λ i. record { follow = follow_more h i; taking = taking_more k i; last = last_more i }

-- The whole text is what was gone through, whose tables are there, and the rest.
pub record Spelling (whole rest : List ℕ) (tables : PlaceTables) (at : ℕ) : Type 0 where
  pub gone : List ℕ
  pub long : length gone ≡ at
  pub there : tables ≡ spelt_tables gone
  pub all : whole ≡ gone ++ rest

pub spelling_none : (whole : List ℕ) (tables : PlaceTables) → tables ≡ spelt_tables [] → Spelling whole whole tables 0
spelling_none whole tables e = record { gone = []; long = refl; there = e; all = refl }

pub spelling_more : (whole rest behind : List ℕ) (tables : PlaceTables) (at c its : ℕ) → Spelling whole rest tables at → rest ≡ c ∷ behind
    → its ≡ mask_of (λ (q : ℕ). eqb (at + 1) q) → at < places → c < most_characters → Spelling whole behind (with_place tables at c its) (at + 1)
spelling_more whole rest behind tables at c its s e f h k =
    let w = s.gone in
    record {
      gone = w ++ (c ∷ []);
      long = length_more w c ∙ ap (λ (n : ℕ). n + 1) s.long;
      there =
          ap (λ (t : PlaceTables). with_place t at c its) s.there
          ∙ ap (with_place (spelt_tables w) at c) f
          ∙ ap (λ (n : ℕ). with_place (spelt_tables w) n c (mask_of (λ (q : ℕ). eqb (n + 1) q))) (sym s.long)
          ∙ spelt_more w c (omega (arith, s.long)) k;
      all = s.all ∙ ap (λ (l : List ℕ). w ++ l) e ∙ sym (append_assoc w (c ∷ []) behind);
    }

pub spelling_all : (whole rest : List ℕ) (tables : PlaceTables) (at : ℕ) → Spelling whole rest tables at → rest ≡ [] → tables ≡ spelt_tables whole
spelling_all whole rest tables at s e = s.there ∙ ap spelt_tables (sym (s.all ∙ ap (λ (l : List ℕ). s.gone ++ l) e ∙ append-nil s.gone))
