-- Adding pairs to the rows (`Grows`): nothing, one row, one after the other.
use Prim.Native.Nat.{ℕ, zero, suc, ◌-◌, ◌^◌, ◌<◌, ◌≤◌}
use native.Mathlib.Omega.{arith}
use native.Mathlib.Nat.{le_refl, le_trans, lt_of_le_of_lt}
use mathlib.Core.Path.{◌≡◌, refl, sym, ap, ◌∙◌}
use mathlib.Core.Bool.{Bool, true, false, not, ◌||◌}
use mathlib.Core.List.{List, [], ◌∷◌}
use mathlib.Core.Logic.{◌⊎◌, inl, inr, ⊎_elim}
use lib.Bits.{bit_and, bit_or, or_lt, or_add_and, and_le_l, and_le_r}
use lib.Count.{count_trailing_zeros}
use lib.Dec.{eqb, ltb}
use lib.ListN.{length, get_or, set, length-set, get_or-eq_default}
use lib.Pow.{pow-lt}
use lib.Seq.{get_or-set_same, get_or-set_other}
use Rattle.paper.proofs.base.Tests.{by_bool, true_false, or_is_true, left_true, right_true, or_left_false, or_right_false, and_left, left_false, eqb_true, eqb_false, ltb_true, ltb_false}
use Rattle.base_places.specs.Masks.{places, in_mask}
use Rattle.plain_block.specs.Rows.{In, free, weight, Grows, One, Each}
use Rattle.plain_block.proofs.Digits.{in_mask_or, in_mask_none, in_mask_one, lowest_of, lowest_out, only_lowest_out}

-- no pair stands behind the last row
in_rows : (rows : List ℕ) → length rows ≡ places → (i q : ℕ) → In rows i q → i < places
in_rows rows long i q h =
    by_bool (ltb i places) (λ e. ltb_true i places e)
    (λ e.
    let l = ltb_false i places e in
    absurd (true_false h (ap (λ (x : ℕ). in_mask x q) (get_or-eq_default rows 0 (omega arith)) ∙ in_mask_none q)))

module _ (P : ℕ → ℕ → Type 0) (rows : List ℕ) (todo : ℕ) where
  -- the pairs stand there already
  pub grows_none : length rows ≡ places → todo < 2 ^ places → ((i q : ℕ) → P i q → In rows i q) → Grows P rows todo rows todo
  grows_none long small there =
      record {
        long = long;
        small = small;
        kept = λ i q h. h;
        sound = λ i q h. inl h;
        complete = there;
        idle = λ i h. (h, refl);
        falls = le_refl (weight rows todo);
      }

  -- the same pairs, told otherwise
  pub grows_as : (R : ℕ → ℕ → Type 0) (after : List ℕ) (left : ℕ) → Grows P rows todo after left
      → ((i q : ℕ) → i < places → P i q → R i q) → ((i q : ℕ) → R i q → P i q) → Grows R rows todo after left
  grows_as R after left g p r =
      record {
        long = g.long;
        small = g.small;
        kept = g.kept;
        sound = λ i q e.
            ⊎_elim (λ (f : In rows i q). inl f) (λ (f : P i q). inr (p i q (in_rows after g.long i q e) f)) (g.sound i q e);
        complete = λ i q e. g.complete i q (r i q e);
        idle = g.idle;
        falls = g.falls;
      }

  -- further pairs
  pub grows_then : (Q R : ℕ → ℕ → Type 0) (one : List ℕ) (left : ℕ) (two : List ℕ) (last : ℕ) → Grows P rows todo one left → Grows Q one left two last
      → ((i q : ℕ) → P i q → R i q) → ((i q : ℕ) → Q i q → R i q) → ((i q : ℕ) → R i q → P i q ⊎ Q i q) → Grows R rows todo two last
  grows_then Q R one left two last g h p q r =
      record {
        long = h.long;
        small = h.small;
        kept = λ i k e. h.kept i k (g.kept i k e);
        sound = λ i k e.
            ⊎_elim (λ (f : In one i k). ⊎_elim (λ (d : In rows i k). inl d) (λ (d : P i k). inr (p i k d)) (g.sound i k f)) (λ (f : Q i k). inr (q i k f))
            (h.sound i k e);
        complete = λ i k e. ⊎_elim (λ (f : P i k). h.kept i k (g.complete i k f)) (λ (f : Q i k). h.complete i k f) (r i k e);
        idle = λ i e.
            let b = h.idle i e in
            let a = g.idle i b.0 in
            (a.0, b.1 ∙ a.1);
        falls = le_trans h.falls g.falls;
      }

-- where the set of right places is empty there is nothing to add
pub no_right : (rows : List ℕ) (todo set more : ℕ) → length rows ≡ places → todo < 2 ^ places → more ≡ 0 → Grows (Each set more) rows todo rows todo
no_right rows todo set more long small e =
    grows_none (Each set more) rows todo long small
    (λ i q h. absurd (true_false h.1 (ap (λ (x : ℕ). in_mask x q) e ∙ in_mask_none q)))

-- a row that grows leaves less room
free_falls : (rows : List ℕ) (j v : ℕ) → j < length rows → get_or rows j 0 < v → get_or rows j 0 < 2 ^ places → free (set rows j v) < free rows
unfolding free
free_falls [] j v h l s = absurd (omega arith)
free_falls (row ∷ rows) zero v h l s = omega arith
free_falls (row ∷ rows) (suc j) v h l s = let f = free_falls rows j v (omega arith) l s in omega arith

weight_falls : (rows after : List ℕ) (todo left : ℕ) → free after < free rows → left < 2 ^ places → weight after left ≤ weight rows todo
unfolding weight
weight_falls rows after todo left h l = omega arith

module _ (rows : List ℕ) (todo i more grown : ℕ) (long : length rows ≡ places) (small : todo < 2 ^ places) (at : i < places)
    (is-grown : grown ≡ bit_or (get_or rows i 0) more) where
  -- what stands in the row then
  in_grown : (q : ℕ) → in_mask grown q ≡ (in_mask (get_or rows i 0) q || in_mask more q)
  in_grown q = ap (λ (x : ℕ). in_mask x q) is-grown ∙ in_mask_or (get_or rows i 0) more q

  pub grows_not : grown ≡ get_or rows i 0 → Grows (One i more) rows todo rows todo
  grows_not e =
      grows_none (One i more) rows todo long small
      (λ j q h.
      let f : in_mask grown q ≡ true = in_grown q ∙ right_true (in_mask (get_or rows i 0) q) (in_mask more q) h.1 in
      ap (λ (x : ℕ). in_mask (get_or rows x 0) q) h.0 ∙ ap (λ (x : ℕ). in_mask x q) (sym e) ∙ f)

  module _ (other : grown ≡ get_or rows i 0 → ⊥) (narrow : get_or rows i 0 < 2 ^ places) (mark : ℕ) (is-mark : mark ≡ 2 ^ i) where
    abbrev after : List ℕ
    after = set rows i grown

    here : (q : ℕ) → in_mask (get_or after i 0) q ≡ (in_mask (get_or rows i 0) q || in_mask more q)
    here q = ap (λ (x : ℕ). in_mask x q) (get_or-set_same rows i grown 0 (omega arith)) ∙ in_grown q

    elsewhere : (j : ℕ) → eqb i j ≡ false → get_or after j 0 ≡ get_or rows j 0
    elsewhere j e = get_or-set_other rows i j grown 0 (λ f. eqb_false i j e (sym f))

    in_marked : (j : ℕ) → in_mask (bit_or todo mark) j ≡ (in_mask todo j || eqb i j)
    in_marked j = in_mask_or todo mark j ∙ ap (λ (b : Bool). in_mask todo j || b) (ap (λ (x : ℕ). in_mask x j) is-mark ∙ in_mask_one i j)

    wider : get_or rows i 0 < grown
    wider = let s = or_add_and (get_or rows i 0) more in let l = and_le_r (get_or rows i 0) more in omega arith

    few : bit_or todo mark < 2 ^ places
    few = or_lt places todo mark small (rw is-mark (pow-lt {i = i} {j = places} at))

    -- by whether the row is the one that grew
    by_row : {C : Type 0} (j : ℕ) → (i ≡ j → C) → (eqb i j ≡ false → C) → C
    by_row j a b = by_bool (eqb i j) (λ e. a (eqb_true i j e)) b

    pub grows_one : Grows (One i more) rows todo after (bit_or todo mark)
    grows_one =
        record {
          long = length-set rows i grown ∙ long;
          small = few;
          kept = λ j q e.
              by_row j
              (λ (s : i ≡ j).
              rw (← s) (here q ∙ left_true (in_mask (get_or rows i 0) q) (in_mask more q) (ap (λ (x : ℕ). in_mask (get_or rows x 0) q) s ∙ e)))
              (λ (s : eqb i j ≡ false). ap (λ (x : ℕ). in_mask x q) (elsewhere j s) ∙ e);
          sound = λ j q e.
              by_row j
              (λ (s : i ≡ j).
              ⊎_elim (λ (f : In rows i q). inl (ap (λ (x : ℕ). in_mask (get_or rows x 0) q) (sym s) ∙ f))
              (λ (f : in_mask more q ≡ true). inr (sym s, f))
              (or_is_true (in_mask (get_or rows i 0) q) (in_mask more q) (sym (here q) ∙ ap (λ (x : ℕ). in_mask (get_or after x 0) q) s ∙ e)))
              (λ (s : eqb i j ≡ false). inl (ap (λ (x : ℕ). in_mask x q) (sym (elsewhere j s)) ∙ e));
          complete = λ j q e.
              ap (λ (x : ℕ). in_mask (get_or after x 0) q) e.0 ∙ here q ∙ right_true (in_mask (get_or rows i 0) q) (in_mask more q) e.1;
          idle = λ j e.
              let f : (in_mask todo j || eqb i j) ≡ false = sym (in_marked j) ∙ e in
              (or_left_false (in_mask todo j) (eqb i j) f, elsewhere j (or_right_false (in_mask todo j) (eqb i j) f));
          falls =
              weight_falls rows after todo (bit_or todo mark)
              (free_falls rows i grown (omega arith) wider narrow) few;
        }

-- The left places of a set are added one after the other: the list of rows when those of `rest` are left.
module _ (rows₀ : List ℕ) (set more todo : ℕ) where
  abbrev Done : ℕ → ℕ → ℕ → Type 0
  Done rest i q = Each set more i q × (in_mask rest i ≡ false)

  pub record Adding (rows : List ℕ) (left rest : ℕ) : Type 0 where
    pub narrow : rest < 2 ^ places
    pub within : (i : ℕ) → in_mask rest i ≡ true → in_mask set i ≡ true
    pub grown : Grows (Done rest) rows₀ todo rows left

  pub adding_none : length rows₀ ≡ places → set < 2 ^ places → todo < 2 ^ places → Adding rows₀ todo set
  adding_none long narrow small =
      record {
        narrow = narrow;
        within = λ i h. h;
        grown = grows_none (Done set) rows₀ todo long small (λ i q d. absurd (true_false d.0.0 d.1));
      }

  module _ (rows : List ℕ) (left rest : ℕ) (a : Adding rows left rest) where
    pub adding_all : rest ≡ 0 → Grows (Each set more) rows₀ todo rows left
    adding_all e =
        grows_as (Done rest) rows₀ todo (Each set more) rows left a.grown (λ i q l h. h.0)
        (λ i q h. (h, ap (λ (x : ℕ). in_mask x i) e ∙ in_mask_none i))

    module _ (some : rest ≡ 0 → ⊥) where
      abbrev at : ℕ
      at = count_trailing_zeros places rest

      pub adding_more : (after : List ℕ) (last : ℕ) → Grows (One at more) rows left after last
          → Adding after last (bit_and rest (rest - 1))
      adding_more after last g =
          let low = lowest_of rest some a.narrow in
          record {
            narrow = lt_of_le_of_lt (and_le_l rest (rest - 1)) a.narrow;
            within = λ i h. a.within i (and_left (in_mask rest i) (not (eqb at i)) (sym (low.rest i) ∙ h));
            grown =
                grows_then (Done rest) rows₀ todo (One at more) (Done (bit_and rest (rest - 1))) rows left after last a.grown g
                (λ i q h. (h.0, low.rest i ∙ left_false (in_mask rest i) (not (eqb at i)) h.1))
                (λ i q h. ((ap (in_mask set) h.0 ∙ a.within at low.stands, h.1), ap (in_mask (bit_and rest (rest - 1))) h.0 ∙ lowest_out low))
                (λ i q h.
                ⊎_elim (λ (e : in_mask rest i ≡ false). inl (h.0, e)) (λ (e : i ≡ at). inr (e, h.0.1)) (only_lowest_out low i h.1));
          }
