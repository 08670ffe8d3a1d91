-- Laws of links: what a link is by its two bytes, and that copying one and putting another in its place does what `LinksPut` says.
-- Follows from the laws of parts and of numbers in bytes.
use Prim.Native.Nat.{ℕ, ◌+◌, ◌-◌, ◌*◌, ◌<◌, ◌≤◌}
use native.Mathlib.Omega.{arith}
use native.Mathlib.Nat.{add-sub_cancel_left}
use native.Mathlib.Numerals.{add-one}
use mathlib.Core.Path.{◌≡◌, sym, ap, ap₂, ◌∙◌}
use mathlib.Core.List.{List, ◌∷◌}
use lib.ListN.{length, get_or, take, drop, set, length-set}
use lib.Seq.{drop-cons, get_or-set_same, get_or-set_other}
use borrow.Rule.Slice.PartMut.{put_mid, mid_of, same_len_mid, mid_len}
use Rattle.search_slots.specs.LowFirst.{low_first_number}
use Rattle.search_buckets.specs.Buckets.{link, LinksPut}
use Rattle.search_slots.specs.Slots.{number_width, number_bytes}
use Rattle.search_slots.proofs.numbers.Bytes.{number_back}
use Rattle.search_slots.proofs.Parts.{put_at, put_outside}

pub link_is : (l : List ℕ) (a : ℕ) → a + 1 < length l → link l a ≡ get_or l a 0 + 256 * get_or l (a + 1) 0
link_is l a h =
    let next : drop a l ≡ get_or l a 0 ∷ drop (a + 1) l = rw add-one (drop-cons l a 0 (omega arith)) in
    rw (next, drop-cons l (a + 1) 0 h) (omega arith)

-- the link at `from` is copied to `to`, as the code does it
abbrev pub link_copied : List ℕ → ℕ → ℕ → List ℕ
link_copied w to from = let one = set w to (get_or w from 0) in set one (to + 1) (get_or one (from + 1) 0)

pub copied_length : (w : List ℕ) (to from : ℕ) → length (link_copied w to from) ≡ length w
copied_length w to from = simp length-set

-- the part that is lent for the new one
pub lent_length : (w : List ℕ) (to from : ℕ) → from + 1 < length w → length (mid_of from (from + number_width - from) (link_copied w to from)) ≡ number_width
lent_length w to from b =
    mid_len from (from + number_width) (link_copied w to from) (omega (arith, copied_length w to from)) ∙ add-sub_cancel_left from number_width

-- The link at `from` is copied to `to`, and becomes one to slot n.
module _ (w bytes : List ℕ) (to from n : ℕ) (a : to + 1 < length w) (b : from + 1 < length w)
    (d : (to ≡ from → ⊥) × (to + 1 ≡ from → ⊥) × (from + 1 ≡ to → ⊥)) (e : bytes ≡ number_bytes (n + 1)) where
  abbrev end : ℕ
  end = from + number_width

  abbrev one : List ℕ
  one = set w to (get_or w from 0)

  abbrev two : List ℕ
  two = link_copied w to from

  abbrev after : List ℕ
  after = put_mid from (end - from) two bytes

  long : length bytes ≡ end - from
  long = rw e (omega arith)

  under : (j : ℕ) → (j ≡ from → ⊥) → (j ≡ from + 1 → ⊥) → get_or after j 0 ≡ get_or two j 0
  under j p q =
      put_outside 0 from end j two bytes (omega arith) (omega (arith, copied_length w to from)) long
      (λ (f : from ≤ j) (g : j < end). omega (arith, p, q))

  low : get_or after to 0 ≡ get_or w from 0
  low =
      under to d.0 (λ (f : to ≡ from + 1). d.2 (sym f))
      ∙ get_or-set_other one (to + 1) to (get_or one (from + 1) 0) 0 (λ (f : to ≡ to + 1). omega arith)
      ∙ get_or-set_same w to (get_or w from 0) 0 (omega arith)

  high : get_or after (to + 1) 0 ≡ get_or w (from + 1) 0
  high =
      under (to + 1) d.1 (λ (f : to + 1 ≡ from + 1). d.0 (omega arith))
      ∙ get_or-set_same one (to + 1) (get_or one (from + 1) 0) 0 (rw length-set a)
      ∙ get_or-set_other w to (from + 1) (get_or w from 0) 0 d.2

  as_long : length after ≡ length w
  as_long =
      same_len_mid from (end - from) two bytes (rw (lent_length w to from b, e)) ∙ copied_length w to from

  pub links_put : LinksPut w to from n after
  links_put =
      record {
        same_length = as_long;
        copied = link_is after to (omega (arith, as_long)) ∙ ap₂ (λ (x y : ℕ). x + 256 * y) low high ∙ sym (link_is w from b);
        put = ap (λ (m : ℕ). low_first_number (take m (drop from after))) (sym (add-sub_cancel_left from number_width))
            ∙ ap low_first_number (put_at from (end - from) two bytes (omega (arith, copied_length w to from)) long ∙ e)
            ∙ number_back (number_width - 1) (n + 1);
        kept = λ j p q r s.
            under j r s
            ∙ get_or-set_other one (to + 1) j (get_or one (from + 1) 0) 0 q
            ∙ get_or-set_other w to j (get_or w from 0) 0 p;
      }
