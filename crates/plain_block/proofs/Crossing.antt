-- What is told of the pairs that are met, from rows from which all has been gone on.
use Prim.Native.Nat.{ℕ, ◌%◌, ◌^◌, ◌<◌}
use native.Mathlib.Nat.{lt_of_le_of_lt}
use native.Mathlib.Omega.{arith}
use mathlib.Core.Path.{◌≡◌, sym, ap, ◌∙◌}
use mathlib.Core.Bool.{true, not, ◌&&◌}
use mathlib.Core.List.{List}
use lib.Bits.{bit_and, and_le_r}
use lib.Count.{count_trailing_zeros}
use lib.Dec.{eqb, ltb}
use lib.ListN.{get_or}
use Rattle.paper.proofs.base.Tests.{by_bool, true_false, not_is_true, and_left, and_right, both_true, eqb_false, neq_eqb, ltb_true}
use Rattle.base_places.specs.Masks.{places, in_mask, followers_of}
use Rattle.base_places.specs.declared.PlaceTables.{PlaceTables}
use Rattle.plain_block.specs.Met.{comes_by, may_be_left, Met, left_came, right_came, both_read, Exactly, Crosses}
use Rattle.plain_block.specs.Rows.{In, Going}
use Rattle.plain_block.specs.declared.Crossed.{Crossed}
use Rattle.plain_block.proofs.Digits.{in_mask_and, in_mask_none, in_mask_zero, in_narrow, lowest_of}
use Rattle.plain_block.proofs.Characters.{followed, follows_some}
use Rattle.plain_block.proofs.Closed.{all_met}

-- a place that is come to is one
comes_below : (t : PlaceTables) (i c q : ℕ) → comes_by t i c q ≡ true → q < places
comes_below t i c q h =
    let both = ltb i places && ltb q places in
    ltb_true q places
    (and_right (ltb i places) (ltb q places) (and_left both (in_mask (get_or t.follow i 0) q && in_mask (get_or t.taking c 0) q) h))

module _ (l r : PlaceTables) (lo hi m n : ℕ) (left-narrow : m < 2 ^ places) (right-narrow : n < 2 ^ places) where
  met_below : {i q : ℕ} → Met l r lo hi m n i q → (i < places) × (q < places)
  met_below (left_came q e) = (omega arith, in_narrow m q left-narrow e)
  met_below (right_came i e) = (in_narrow n i right-narrow e, omega arith)
  met_below (both_read i q c j s d from below there f g) = (comes_below l i c j f, comes_below r q c s g)

  module _ (rows : List ℕ) (met : ℕ) (x : Going l r lo hi m n rows 0 met) where
    -- the places of `met` are all that are met
    in_met : (i q : ℕ) → In rows i q → in_mask met i ≡ true
    in_met i q h =
        by_bool (in_mask met i) (λ e. e)
        (λ e. absurd (true_false h (ap (λ (y : ℕ). in_mask y q) (x.none i e) ∙ in_mask_none q)))

    told_left : (told : ℕ) → told ≡ followers_of rows (bit_and l.last met) → told < 2 ^ places
        → Exactly told (λ (q : ℕ). (i : ℕ) × Met l r lo hi m n i q × (may_be_left l i ≡ true))
    told_left told e narrow =
        record {
          sound = λ q h.
              let f = followed rows (bit_and l.last met) q (in_narrow told q narrow h) (ap (λ (y : ℕ). in_mask y q) (sym e) ∙ h) in
              (f.0, x.sound f.0 q f.3, and_left (in_mask l.last f.0) (in_mask met f.0) (sym (in_mask_and l.last met f.0) ∙ f.2));
          complete = λ q h.
              let i = h.0 in
              let b = met_below h.1 in
              let s = all_met l r lo hi m n rows met x h.1 in
              ap (λ (y : ℕ). in_mask y q) e
              ∙ follows_some rows (bit_and l.last met) q b.1 i b.0 (in_mask_and l.last met i ∙ both_true h.2 (in_met i q s)) s;
        }

    told_right : (told : ℕ) → ((i : ℕ) → in_mask told i ≡ (in_mask met i && not (eqb (bit_and (get_or rows i 0) r.last) 0))) → r.last < 2 ^ places
        → Exactly told (λ (i : ℕ). (q : ℕ) × Met l r lo hi m n i q × (may_be_left r q ≡ true))
    told_right told e narrow =
        record {
          sound = λ i h.
              let both = bit_and (get_or rows i 0) r.last in
              let some : both ≡ 0 → ⊥
              = eqb_false both 0 (not_is_true (and_right (in_mask met i) (not (eqb both 0)) (sym (e i) ∙ h))) in
              let q = count_trailing_zeros places both in
              let s : (in_mask (get_or rows i 0) q && in_mask r.last q) ≡ true
              = sym (in_mask_and (get_or rows i 0) r.last q)
              ∙ (lowest_of both some (lt_of_le_of_lt (and_le_r (get_or rows i 0) r.last) narrow)).stands in (
                q,
                x.sound i q (and_left (in_mask (get_or rows i 0) q) (in_mask r.last q) s),
                and_right (in_mask (get_or rows i 0) q) (in_mask r.last q) s,
              );
          complete = λ i h.
              let q = h.0 in
              let both = bit_and (get_or rows i 0) r.last in
              let s = all_met l r lo hi m n rows met x h.1 in
              let some : both ≡ 0 → ⊥
              = λ (f : both ≡ 0).
              true_false (in_mask_and (get_or rows i 0) r.last q ∙ both_true s h.2) (ap (λ (y : ℕ). in_mask y q) f ∙ in_mask_none q) in
              e i ∙ both_true (in_met i q s) (ap not (neq_eqb both 0 some));
        }

    pub crossed : (told : Crossed) → told.left ≡ followers_of rows (bit_and l.last met) → told.left < 2 ^ places
        → ((i : ℕ) → in_mask told.right i ≡ (in_mask met i && not (eqb (bit_and (get_or rows i 0) r.last) 0))) → r.last < 2 ^ places
        → told.starts ≡ eqb (get_or rows 0 0 % 2) 1 → Crosses l r lo hi m n told
    crossed told e narrow f last g =
        record {
          left = told_left told.left e narrow;
          right = told_right told.right f last;
          starts = λ h. x.sound 0 0 (in_mask_zero (get_or rows 0 0) ∙ sym g ∙ h);
          starts_met = λ h. g ∙ sym (in_mask_zero (get_or rows 0 0)) ∙ all_met l r lo hi m n rows met x h;
        }
