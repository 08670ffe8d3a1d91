-- Gathering the left places that are met with some place of a set, lowest first.
use Prim.Native.Nat.{ℕ, ◌-◌, ◌^◌, ◌<◌}
use native.Mathlib.Nat.{lt_of_le_of_lt}
use mathlib.Core.Path.{◌≡◌, refl, sym, ap, ap₂, ◌∙◌}
use mathlib.Core.Bool.{Bool, true, false, not, ◌&&◌, ◌||◌, and-true, and-false, or-false}
use mathlib.Core.List.{List}
use lib.Bits.{bit_and, bit_or, and_le_l}
use lib.Count.{count_trailing_zeros}
use lib.Dec.{eqb}
use lib.ListN.{get_or}
use Rattle.paper.proofs.base.Tests.{by_bool, and_left, eqb_true, eq_eqb, neq_eqb}
use Rattle.base_places.specs.Masks.{places, in_mask}
use Rattle.plain_block.proofs.Digits.{in_mask_or, in_mask_none, in_mask_one, lowest_of}

-- the place that is looked at, and the others
this_one : (m s h : Bool) → m ≡ true → s ≡ true → (((m && not s) && h) || (h && true)) ≡ ((m && not (s && false)) && h)
this_one m s true e f = rw (e, f) refl
this_one m s false e f = rw (e, f) refl

other_one : (m s h k : Bool) → (((m && not s) && h) || (k && false)) ≡ ((m && not (s && true)) && h)
other_one m s h k = rw (and-false k, or-false ((m && not s) && h), and-true s) refl

never_both : (b h : Bool) → false ≡ ((b && not b) && h)
never_both true h = refl
never_both false h = refl

all_done : (b h : Bool) → ((b && not false) && h) ≡ (b && h)
all_done b h = ap (λ (x : Bool). x && h) (and-true b)

module _ (rows : List ℕ) (met last : ℕ) where
  abbrev held : ℕ → Bool
  held i = not (eqb (bit_and (get_or rows i 0) last) 0)

  pub record Gathering (r rest : ℕ) : Type 0 where
    pub narrow : rest < 2 ^ places
    pub within : (i : ℕ) → in_mask rest i ≡ true → in_mask met i ≡ true
    pub is : (i : ℕ) → in_mask r i ≡ ((in_mask met i && not (in_mask rest i)) && held i)

  pub gathering_none : met < 2 ^ places → Gathering 0 met
  gathering_none narrow = record { narrow = narrow; within = λ i h. h; is = λ (i : ℕ). in_mask_none i ∙ never_both (in_mask met i) (held i) }

  module _ (r rest : ℕ) (x : Gathering r rest) where
    pub gathering_all : rest ≡ 0 → (i : ℕ) → in_mask r i ≡ (in_mask met i && held i)
    gathering_all e i =
        x.is i ∙ ap (λ (b : Bool). (in_mask met i && not b) && held i) (ap (λ (y : ℕ). in_mask y i) e ∙ in_mask_none i) ∙ all_done (in_mask met i) (held i)

    module _ (some : rest ≡ 0 → ⊥) where
      abbrev at : ℕ
      at = count_trailing_zeros places rest

      one_more : (more : ℕ) → ((i : ℕ) → in_mask more i ≡ (in_mask r i || (held at && eqb at i))) → Gathering more (bit_and rest (rest - 1))
      one_more more f =
          let low = lowest_of rest some x.narrow in
          record {
            narrow = lt_of_le_of_lt (and_le_l rest (rest - 1)) x.narrow;
            within = λ i h. x.within i (and_left (in_mask rest i) (not (eqb at i)) (sym (low.rest i) ∙ h));
            is = λ (i : ℕ).
                f i
                ∙ ap (λ (b : Bool). b || (held at && eqb at i)) (x.is i)
                ∙ by_bool (eqb at i)
                (λ (e : eqb at i ≡ true).
                let same : at ≡ i = eqb_true at i e in
                ap (λ (b : Bool). ((in_mask met i && not (in_mask rest i)) && held i) || b) (ap₂ ◌&&◌ (ap held same) e)
                ∙ this_one (in_mask met i) (in_mask rest i) (held i) (x.within i (rw same at low.stands)) (rw same at low.stands)
                ∙ ap (λ (b : Bool). (in_mask met i && not (in_mask rest i && not b)) && held i) (sym e))
                (λ (e : eqb at i ≡ false).
                ap (λ (b : Bool). ((in_mask met i && not (in_mask rest i)) && held i) || (held at && b)) e
                ∙ other_one (in_mask met i) (in_mask rest i) (held i) (held at)
                ∙ ap (λ (b : Bool). (in_mask met i && not (in_mask rest i && not b)) && held i) (sym e))
                ∙ ap (λ (b : Bool). (in_mask met i && not b) && held i) (sym (low.rest i));
          }

      pub gathering_more : (bit_and (get_or rows at 0) last ≡ 0 → ⊥) → (mark : ℕ) → mark ≡ 2 ^ at → Gathering (bit_or r mark) (bit_and rest (rest - 1))
      gathering_more h mark e =
          let t : held at ≡ true = ap not (neq_eqb (bit_and (get_or rows at 0) last) 0 h) in
          one_more (bit_or r mark)
          (λ (i : ℕ).
          in_mask_or r mark i
          ∙ ap (λ (b : Bool). in_mask r i || b)
          (ap (λ (y : ℕ). in_mask y i) e ∙ in_mask_one at i ∙ sym (ap (λ (b : Bool). b && eqb at i) t)))

      pub gathering_not : bit_and (get_or rows at 0) last ≡ 0 → Gathering r (bit_and rest (rest - 1))
      gathering_not h =
          let t : held at ≡ false = ap not (eq_eqb (bit_and (get_or rows at 0) last) 0 h) in
          one_more r
          (λ (i : ℕ). sym (or-false (in_mask r i)) ∙ ap (λ (b : Bool). in_mask r i || b) (sym (ap (λ (b : Bool). b && eqb at i) t)))
