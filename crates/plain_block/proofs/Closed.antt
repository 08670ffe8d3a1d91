-- Going on from one place after the other keeps what `Going` says, and what is left to do falls; where no place is to be gone on from, the rows hold every
-- pair that is met, by induction on how it is met.
use Prim.Native.Nat.{ℕ, zero, suc, ◌-◌, ◌^◌, ◌<◌}
use native.Mathlib.Omega.{arith}
use mathlib.Core.Path.{◌≡◌, refl, sym, ap, ◌∙◌}
use mathlib.Core.Bool.{true, false, ◌||◌}
use mathlib.Core.List.{List}
use mathlib.Core.Logic.{⊎_elim}
use lib.Bits.{bit_and, bit_or, and_le_r}
use lib.Count.{count_trailing_zeros}
use lib.ListN.{get_or, replicate}
use Rattle.paper.proofs.base.Tests.{true_false, or_left_false, or_right_false, eqb_true}
use Rattle.base_places.specs.Masks.{places, in_mask}
use Rattle.base_places.specs.declared.PlaceTables.{PlaceTables}
use Rattle.plain_block.specs.Met.{Met, left_came, right_came, both_read}
use Rattle.plain_block.specs.Rows.{In, weight, Grows, Each, Behind, Going}
use Rattle.plain_block.proofs.Digits.{in_mask_or, in_mask_none, in_mask_one, lowest_of, only_lowest_out}

-- a place that is taken out is one less to go on from
pub weight_taken : (rows : List ℕ) (todo : ℕ) → (todo ≡ 0 → ⊥) → weight rows (bit_and todo (todo - 1)) < weight rows todo
unfolding weight
weight_taken rows todo some = let l = and_le_r todo (todo - 1) in omega arith

-- rows without a pair
pub no_pair : (k i : ℕ) → get_or {A = ℕ} (replicate k 0) i 0 ≡ 0
no_pair zero i = refl
no_pair (suc k) zero = refl
no_pair (suc k) (suc i) = no_pair k i

module _ (l r : PlaceTables) (lo hi m n : ℕ) where
  abbrev Next : List ℕ → ℕ → ℕ → ℕ → Type 0
  Next rows = Behind l.follow l.taking r.follow r.taking lo hi rows

  abbrev start_only : (i : ℕ) → in_mask 1 i ≡ true → 0 ≡ i
  start_only i h = eqb_true 0 i (sym (in_mask_one 0 i) ∙ h)

  -- the tokens came in front
  pub going_begins : (none one two : List ℕ) (first todo : ℕ) → ((i : ℕ) → get_or none i 0 ≡ 0)
      → Grows (Each 1 m) none 0 one first → Grows (Each n 1) one first two todo → Going l r lo hi m n two todo todo
  going_begins none one two first todo empty g h =
      let unmet : (i : ℕ) → in_mask todo i ≡ false → get_or two i 0 ≡ 0
      = λ (i : ℕ) (e : in_mask todo i ≡ false).
      let b = h.idle i e in
      b.1 ∙ (g.idle i b.0).1 ∙ empty i in
      record {
        sound = λ i q e.
            ⊎_elim
            (λ (f : In one i q).
            ⊎_elim (λ (d : In none i q). absurd (true_false d (ap (λ (x : ℕ). in_mask x q) (empty i) ∙ in_mask_none q)))
            (λ (d : Each 1 m i q). rw (← (start_only i d.0)) (left_came q d.1)) (g.sound i q f))
            (λ (f : Each n 1 i q). rw (← (start_only q f.1)) (right_came i f.0)) (h.sound i q e);
        left_came = λ q e. h.kept 0 q (g.complete 0 q (in_mask_one 0 0, e));
        right_came = λ i e. h.complete i 0 (e, in_mask_one 0 0);
        closed = λ i j s e b. absurd (true_false b.stands (ap (λ (x : ℕ). in_mask x b.at) (unmet i e) ∙ in_mask_none b.at));
        none = unmet;
      }

  module _ (rows : List ℕ) (todo met : ℕ) (x : Going l r lo hi m n rows todo met) where
    -- the place i is gone on from
    pub going_on : (todo ≡ 0 → ⊥) → todo < 2 ^ places → (after : List ℕ) (left : ℕ)
        → Grows (Next rows (count_trailing_zeros places todo)) rows (bit_and todo (todo - 1)) after left → Going l r lo hi m n after left (bit_or met left)
    going_on some small after left g =
        record {
          sound = λ i q e.
              ⊎_elim (λ (f : In rows i q). x.sound i q f)
              (λ (f : Next rows (count_trailing_zeros places todo) i q).
              both_read (count_trailing_zeros places todo) f.at f.by i q (x.sound (count_trailing_zeros places todo) f.at f.stands) f.from f.below
              f.there f.left f.right)
              (g.sound i q e);
          left_came = λ q e. g.kept 0 q (x.left_came q e);
          right_came = λ i e. g.kept i 0 (x.right_came i e);
          closed = λ i j s e b.
              let f = g.idle i e in
              let before : Next rows i j s
              = record {
                at = b.at;
                by = b.by;
                stands = ap (λ (y : ℕ). in_mask y b.at) (sym f.1) ∙ b.stands;
                from = b.from;
                below = b.below;
                there = b.there;
                left = b.left;
                right = b.right;
              } in
              ⊎_elim (λ (d : in_mask todo i ≡ false). g.kept j s (x.closed i j s d before))
              (λ (d : i ≡ count_trailing_zeros places todo). g.complete j s (rw d at before)) (only_lowest_out (lowest_of todo some small) i f.0);
          none = λ i e.
              let f : (in_mask met i || in_mask left i) ≡ false = sym (in_mask_or met left i) ∙ e in
              (g.idle i (or_right_false (in_mask met i) (in_mask left i) f)).1 ∙ x.none i (or_left_false (in_mask met i) (in_mask left i) f);
        }

  -- all is done
  module _ (rows : List ℕ) (met : ℕ) (x : Going l r lo hi m n rows 0 met) where
    pub all_met : {i q : ℕ} → Met l r lo hi m n i q → In rows i q
    all_met (left_came q e) = x.left_came q e
    all_met (right_came i e) = x.right_came i e
    all_met (both_read i q c j s d from below there f g) =
        x.closed i j s (in_mask_none i)
        (record { at = q; by = c; stands = all_met d; from = from; below = below; there = there; left = f; right = g })
