-- The places of two tokens in front (request K9): which pairs of a left and a right place are met while both tokens stay in front, which of them let
-- the left one be left, and which the right one. A token is what is worked out of its field, and the characters that it may read, from lo on to below
-- hi. Over any tables of masks.
use Rattle.std.specs.Prelude.{ℕ, ◌≤◌, ◌<◌, ◌≡◌, Bool, true, ◌&&◌, List, ltb, get_or}
use Rattle.paper.specs.Numbers.{most_characters}
use Rattle.base_places.specs.Masks.{places, in_mask}
use Rattle.base_places.specs.declared.PlaceTables.{PlaceTables}
use Rattle.plain_block.specs.declared.Crossed.{Crossed}

-- does the place q come after the place i by reading the character c?
abbrev pub comes_by : PlaceTables → ℕ → ℕ → ℕ → Bool
comes_by t i c q = (ltb i places && ltb q places) && (in_mask (get_or t.follow i 0) q && in_mask (get_or t.taking c 0) q)

-- may the place be the last one?
abbrev pub may_be_left : PlaceTables → ℕ → Bool
may_be_left t i = in_mask t.last i

-- The pairs that are met, where the left token came in front with the right one at the places of m, and the right one with the left one at those of n:
-- the token that came in front is at its start. From a pair both go on by reading one character.
pub data Met (l r : PlaceTables) (lo hi m n : ℕ) : ℕ → ℕ → Type 0 where
  left_came : (q : ℕ) → in_mask m q ≡ true → Met l r lo hi m n 0 q
  right_came : (i : ℕ) → in_mask n i ≡ true → Met l r lo hi m n i 0
  both_read : (i q c j s : ℕ) → Met l r lo hi m n i q → lo ≤ c → c < hi → c < most_characters → comes_by l i c j ≡ true → comes_by r q c s ≡ true → Met l r lo hi m n j s

-- the mask has exactly the places of which something holds
pub record Exactly (mask : ℕ) (P : ℕ → Type 0) : Type 0 where
  pub sound : (i : ℕ) → in_mask mask i ≡ true → P i
  pub complete : (i : ℕ) → P i → in_mask mask i ≡ true

-- What is told of the pairs met: at which places the right token is where the left one may be left, at which the left one is where the right one may be
-- left, and whether both starts are met.
pub record Crosses (l r : PlaceTables) (lo hi m n : ℕ) (x : Crossed) : Type 0 where
  pub left : Exactly x.left (λ (q : ℕ). (i : ℕ) × Met l r lo hi m n i q × (may_be_left l i ≡ true))
  pub right : Exactly x.right (λ (i : ℕ). (q : ℕ) × Met l r lo hi m n i q × (may_be_left r q ≡ true))
  pub starts : x.starts ≡ true → Met l r lo hi m n 0 0
  pub starts_met : Met l r lo hi m n 0 0 → x.starts ≡ true

-- what is worked out of a token, put together from its rows
abbrev pub tables : List ℕ → List ℕ → ℕ → PlaceTables
tables follow taking last = record { follow = follow; taking = taking; last = last }
