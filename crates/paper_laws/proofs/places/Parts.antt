-- What the tests of `Places` say of the parts of a pattern, and where they pass: the leaves of a part p with its first leaf at o are
-- the places from o on, below o + leaves p, and no test passes at another place. So the two parts of `then` and `either` have no place in common.
use Prim.Native.Nat.{ℕ, ◌+◌, ◌≤◌, ◌<◌}
use native.Mathlib.Omega.{arith}
use mathlib.Core.Path.{◌≡◌}
use mathlib.Core.Logic.{⊎_elim}
use mathlib.Core.Bool.{Bool, true, ◌&&◌, ◌||◌, false≢true}
use lib.Dec.{leb, eqb}
use Rattle.paper.proofs.base.Tests.{by_bool, and_left, and_right, or_is_true, leb_true, leb_false, eqb_true}
use Rattle.paper.specs.Pattern.{takes, Pattern, leaf, empty, then, either, many}
use Rattle.paper.specs.Places.{leaves, takes_empty, may_be_first, may_be_last, may_follow, leaf_takes}

-- q is one of the n places from o on
pub record Within (o n q : ℕ) : Type 0 where
  pub low : o ≤ q
  pub high : q < o + n

-- The cases of a test that passes.
one_of : {C : Type 0} (a b : Bool) → (a ≡ true → C) → (b ≡ true → C) → a || b ≡ true → C
one_of a b f g h = ⊎_elim f g (or_is_true a b h)

both_of : {C : Type 0} (a b : Bool) → (a ≡ true → b ≡ true → C) → a && b ≡ true → C
both_of a b f h = f (and_left a b h) (and_right a b h)

module _ (a b : Pattern) (o : ℕ) {C : Type 0} where
  pub first_then : (q : ℕ)
      → (may_be_first a o q ≡ true → C)
      → (takes_empty a ≡ true → may_be_first b (o + leaves a) q ≡ true → C)
      → may_be_first (then a b) o q ≡ true → C
  first_then q f g =
      one_of (may_be_first a o q) (takes_empty a && may_be_first b (o + leaves a) q) f
      (both_of (takes_empty a) (may_be_first b (o + leaves a) q) g)

  pub last_then : (i : ℕ)
      → (may_be_last b (o + leaves a) i ≡ true → C)
      → (takes_empty b ≡ true → may_be_last a o i ≡ true → C)
      → may_be_last (then a b) o i ≡ true → C
  last_then i f g =
      one_of (may_be_last b (o + leaves a) i) (takes_empty b && may_be_last a o i) f
      (both_of (takes_empty b) (may_be_last a o i) g)

  pub follow_then : (i q : ℕ)
      → (may_follow a o i q ≡ true → C)
      → (may_follow b (o + leaves a) i q ≡ true → C)
      → (may_be_last a o i ≡ true → may_be_first b (o + leaves a) q ≡ true → C)
      → may_follow (then a b) o i q ≡ true → C
  follow_then i q f g k =
      one_of (may_follow a o i q || may_follow b (o + leaves a) i q) (may_be_last a o i && may_be_first b (o + leaves a) q)
      (one_of (may_follow a o i q) (may_follow b (o + leaves a) i q) f g)
      (both_of (may_be_last a o i) (may_be_first b (o + leaves a) q) k)

  pub first_either : (q : ℕ)
      → (may_be_first a o q ≡ true → C)
      → (may_be_first b (o + leaves a) q ≡ true → C)
      → may_be_first (either a b) o q ≡ true → C
  first_either q = one_of (may_be_first a o q) (may_be_first b (o + leaves a) q)

  pub last_either : (i : ℕ)
      → (may_be_last a o i ≡ true → C)
      → (may_be_last b (o + leaves a) i ≡ true → C)
      → may_be_last (either a b) o i ≡ true → C
  last_either i = one_of (may_be_last a o i) (may_be_last b (o + leaves a) i)

  pub follow_either : (i q : ℕ)
      → (may_follow a o i q ≡ true → C)
      → (may_follow b (o + leaves a) i q ≡ true → C)
      → may_follow (either a b) o i q ≡ true → C
  follow_either i q = one_of (may_follow a o i q) (may_follow b (o + leaves a) i q)

  -- of `then` and of `either`
  pub takes_parts : (q c : ℕ)
      → (leaf_takes a o q c ≡ true → C)
      → (leaf_takes b (o + leaves a) q c ≡ true → C)
      → leaf_takes a o q c || leaf_takes b (o + leaves a) q c ≡ true → C
  takes_parts q c = one_of (leaf_takes a o q c) (leaf_takes b (o + leaves a) q c)

pub follow_many : (a : Pattern) (o : ℕ) {C : Type 0} (i q : ℕ)
    → (may_follow a o i q ≡ true → C)
    → (may_be_last a o i ≡ true → may_be_first a o q ≡ true → C)
    → may_follow (many a) o i q ≡ true → C
follow_many a o i q f g =
    one_of (may_follow a o i q) (may_be_last a o i && may_be_first a o q) f
    (both_of (may_be_last a o i) (may_be_first a o q) g)

-- Where the tests pass. A part with n leaves, and behind it one with m.
module _ (o n m q : ℕ) where
  in_first : Within o n q → Within o (n + m) q
  in_first h = omega arith

  in_second : Within (o + n) m q → Within o (n + m) q
  in_second h = omega arith

  pub apart : Within o n q → Within (o + n) m q → ⊥
  apart h k = omega arith

  -- a place of both is a place of one
  pub one_part : {C : Type 0} → (Within o n q → C) → (Within (o + n) m q → C) → Within o (n + m) q → C
  one_part f g h =
      by_bool (leb (o + n) q)
      (λ e. let k = leb_true (o + n) q e in g (omega arith))
      (λ e. let k = leb_false (o + n) q e in f (omega arith))

pub first_within : (p : Pattern) (o q : ℕ) → may_be_first p o q ≡ true → Within o (leaves p) q
first_within (leaf l) o q h = let e = eqb_true o q h in omega arith
first_within empty o q h = absurd (false≢true h)
first_within (then a b) o q h =
    first_then a b o q (λ k. in_first o (leaves a) (leaves b) q (first_within a o q k))
    (λ e k. in_second o (leaves a) (leaves b) q (first_within b (o + leaves a) q k)) h
first_within (either a b) o q h =
    first_either a b o q (λ k. in_first o (leaves a) (leaves b) q (first_within a o q k))
    (λ k. in_second o (leaves a) (leaves b) q (first_within b (o + leaves a) q k)) h
first_within (many a) o q h = first_within a o q h

pub last_within : (p : Pattern) (o i : ℕ) → may_be_last p o i ≡ true → Within o (leaves p) i
last_within (leaf l) o i h = let e = eqb_true o i h in omega arith
last_within empty o i h = absurd (false≢true h)
last_within (then a b) o i h =
    last_then a b o i (λ k. in_second o (leaves a) (leaves b) i (last_within b (o + leaves a) i k))
    (λ e k. in_first o (leaves a) (leaves b) i (last_within a o i k)) h
last_within (either a b) o i h =
    last_either a b o i (λ k. in_first o (leaves a) (leaves b) i (last_within a o i k))
    (λ k. in_second o (leaves a) (leaves b) i (last_within b (o + leaves a) i k)) h
last_within (many a) o i h = last_within a o i h

-- both places of `may_follow`
pub follow_within : (p : Pattern) (o i q : ℕ) → may_follow p o i q ≡ true → Within o (leaves p) i × Within o (leaves p) q
follow_within (leaf l) o i q h = absurd (false≢true h)
follow_within empty o i q h = absurd (false≢true h)
follow_within (then a b) o i q h =
    follow_then a b o i q
    (λ k. let r = follow_within a o i q k in (in_first o (leaves a) (leaves b) i r.0, in_first o (leaves a) (leaves b) q r.1))
    (λ k. let r = follow_within b (o + leaves a) i q k in
    (in_second o (leaves a) (leaves b) i r.0, in_second o (leaves a) (leaves b) q r.1))
    (λ k l. (
      in_first o (leaves a) (leaves b) i (last_within a o i k),
      in_second o (leaves a) (leaves b) q (first_within b (o + leaves a) q l),
    ))
    h
follow_within (either a b) o i q h =
    follow_either a b o i q
    (λ k. let r = follow_within a o i q k in (in_first o (leaves a) (leaves b) i r.0, in_first o (leaves a) (leaves b) q r.1))
    (λ k. let r = follow_within b (o + leaves a) i q k in
    (in_second o (leaves a) (leaves b) i r.0, in_second o (leaves a) (leaves b) q r.1))
    h
follow_within (many a) o i q h =
    follow_many a o i q (follow_within a o i q) (λ k l. (last_within a o i k, first_within a o q l)) h

pub takes_within : (p : Pattern) (o q c : ℕ) → leaf_takes p o q c ≡ true → Within o (leaves p) q
takes_within (leaf l) o q c h = let e = eqb_true o q (and_left (eqb o q) (takes l c) h) in omega arith
takes_within empty o q c h = absurd (false≢true h)
takes_within (then a b) o q c h =
    takes_parts a b o q c (λ k. in_first o (leaves a) (leaves b) q (takes_within a o q c k))
    (λ k. in_second o (leaves a) (leaves b) q (takes_within b (o + leaves a) q c k)) h
takes_within (either a b) o q c h =
    takes_parts a b o q c (λ k. in_first o (leaves a) (leaves b) q (takes_within a o q c k))
    (λ k. in_second o (leaves a) (leaves b) q (takes_within b (o + leaves a) q c k)) h
takes_within (many a) o q c h = takes_within a o q c h
