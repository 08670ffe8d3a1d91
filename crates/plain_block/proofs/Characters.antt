-- What both tokens take of one character after the other is added to the rows, and comes to what comes after the pairs of a place (`Behind`).
use Prim.Native.Nat.{ℕ, ◌+◌, ◌^◌, ◌<◌, ◌≤◌}
use native.Mathlib.Nat.{le_refl}
use native.Mathlib.Omega.{arith}
use mathlib.Core.Path.{◌≡◌, sym, ap, ◌∙◌}
use mathlib.Core.Bool.{Bool, true, false, ◌&&◌}
use mathlib.Core.List.{List}
use mathlib.Core.Logic.{◌⊎◌, inl, inr}
use lib.Bits.{bit_and}
use lib.Dec.{leb, ltb}
use lib.ListN.{length, get_or}
use Rattle.paper.specs.Numbers.{most_characters}
use Rattle.paper.proofs.base.Tests.{by_bool, true_false, leb_true, leb_false, both_true, and_left, and_right, ltb_true, lt_ltb, ltb_false}
use Rattle.paper.specs.Lists.{upto, any}
use Rattle.paper.proofs.base.Lists.{any_true, mem_any, mem_upto, upto_mem}
use Rattle.base_places.specs.Masks.{places, in_mask, followers_of, within}
use Rattle.base_places.proofs.MaskOf.{in_mask_of}
use Rattle.plain_block.specs.Rows.{Grows, Each, Taken, Behind}
use Rattle.plain_block.proofs.Growing.{grows_none, grows_as, grows_then}
use Rattle.plain_block.proofs.Digits.{in_mask_and, in_mask_none, in_narrow}

-- the characters below a number that a table has room for
within_below : (n c : ℕ) → c < within n → (c < n) × (c < most_characters)
unfolding within
within_below n c h =
    by_bool (leb n most_characters)
    (λ (e : leb n most_characters ≡ true). let k = rw e at h in let l = leb_true n most_characters e in (omega arith, omega arith))
    (λ (e : leb n most_characters ≡ false). let k = rw e at h in let l = leb_false n most_characters e in (omega arith, omega arith))

below_within : (n c : ℕ) → c < n → c < most_characters → c < within n
unfolding within
below_within n c h k =
    by_bool (leb n most_characters) (λ (e : leb n most_characters ≡ true). rw e h) (λ (e : leb n most_characters ≡ false). rw e k)

module _ (rows₀ : List ℕ) (lefts rights : ℕ) (left-taking right-taking : List ℕ) (lo hi todo : ℕ) where
  abbrev All : ℕ → ℕ → Type 0
  All = Taken lefts rights left-taking right-taking lo hi

  -- by a character below c
  abbrev Below : ℕ → ℕ → ℕ → Type 0
  Below c j s = (t : All j s) × (t.by < c)

  abbrev At : ℕ → ℕ → ℕ → Type 0
  At c = Each (bit_and lefts (get_or left-taking c 0)) (bit_and rights (get_or right-taking c 0))

  pub record Reading (rows : List ℕ) (left c : ℕ) : Type 0 where
    pub from : lo ≤ c
    pub grown : Grows (Below c) rows₀ todo rows left

  pub reading_none : length rows₀ ≡ places → todo < 2 ^ places → Reading rows₀ todo lo
  reading_none long small =
      record {
        from = le_refl lo;
        grown = grows_none (Below lo) rows₀ todo long small (λ j s t. let f = t.0.from in absurd (omega (arith, t.1, f)));
      }

  module _ (rows : List ℕ) (left c : ℕ) (x : Reading rows left c) where
    by_last : (j s : ℕ) → Below (c + 1) j s → Below c j s ⊎ At c j s
    by_last j s t =
        by_bool (ltb t.0.by c) (λ e. inl (t.0, ltb_true t.0.by c e))
        (λ e.
        let l = ltb_false t.0.by c e in
        let same : t.0.by ≡ c = omega (arith, t.1) in
        inr (rw same at t.0.taken))

    pub reading_more : c < within hi → (after : List ℕ) (last : ℕ) → Grows (At c) rows left after last → Reading after last (c + 1)
    reading_more h after last g =
        record {
          from = let f = x.from in omega arith;
          grown =
              grows_then (Below c) rows₀ todo (At c) (Below (c + 1)) rows left after last x.grown g
              (λ j s t. (t.0, omega (arith, t.1)))
              (λ j s t. (record { by = c; from = x.from; below = (within_below hi c h).0; there = (within_below hi c h).1; taken = t }, omega arith)) by_last;
        }

    pub reading_all : within hi ≤ c → Grows All rows₀ todo rows left
    reading_all h =
        grows_as (Below c) rows₀ todo All rows left x.grown (λ j s l t. t.0)
        (λ j s t. (t, let b = below_within hi t.by t.below t.there in omega arith))

-- the places that follow those of a set
module _ (follow : List ℕ) (m s : ℕ) where
  abbrev leads : ℕ → Bool
  leads q = in_mask m q && in_mask (get_or follow q 0) s

  in_followers : s < places → in_mask (followers_of follow m) s ≡ any leads (upto places)
  unfolding followers_of
  in_followers = in_mask_of (λ (t : ℕ). any (λ (q : ℕ). in_mask m q && in_mask (get_or follow q 0) t) (upto places)) s

  pub followed : s < places → in_mask (followers_of follow m) s ≡ true
      → (q : ℕ) × (q < places) × (in_mask m q ≡ true) × (in_mask (get_or follow q 0) s ≡ true)
  followed l h =
      let f = any_true leads (upto places) (sym (in_followers l) ∙ h) in
      let q = f.0 in
      (q, mem_upto places f.1, and_left (in_mask m q) (in_mask (get_or follow q 0) s) f.2, and_right (in_mask m q) (in_mask (get_or follow q 0) s) f.2)

  pub follows_some : s < places → (q : ℕ) → q < places → in_mask m q ≡ true → in_mask (get_or follow q 0) s ≡ true → in_mask (followers_of follow m) s ≡ true
  follows_some l q k h f = in_followers l ∙ mem_any leads (upto places) (upto_mem places k) (both_true h f)

module _ (left-follow left-taking right-follow right-taking : List ℕ) (lo hi : ℕ) (rows : List ℕ) (todo i rights : ℕ) (at : i < places)
    (followers : rights ≡ followers_of right-follow (get_or rows i 0)) where
  abbrev Next : ℕ → ℕ → Type 0
  Next = Behind left-follow left-taking right-follow right-taking lo hi rows i

  abbrev Both : ℕ → ℕ → Type 0
  Both = Taken (get_or left-follow i 0) rights left-taking right-taking lo hi

  next_taken : (j s : ℕ) → Next j s → Both j s
  next_taken j s b =
      let c = b.by in
      let q = b.at in
      let x = ltb i places && ltb j places in
      let y = in_mask (get_or left-follow i 0) j in
      let u = ltb q places in
      let v = ltb s places in
      let w = in_mask (get_or right-follow q 0) s in
      let f : (y && in_mask (get_or left-taking c 0) j) ≡ true = and_right x (y && in_mask (get_or left-taking c 0) j) b.left in
      let g : (w && in_mask (get_or right-taking c 0) s) ≡ true = and_right (u && v) (w && in_mask (get_or right-taking c 0) s) b.right in
      let k : (u && v) ≡ true = and_left (u && v) (w && in_mask (get_or right-taking c 0) s) b.right in
      record {
        by = c;
        from = b.from;
        below = b.below;
        there = b.there;
        taken = (
          in_mask_and (get_or left-follow i 0) (get_or left-taking c 0) j ∙ f,
          in_mask_and rights (get_or right-taking c 0) s
              ∙ both_true
              (ap (λ (z : ℕ). in_mask z s) followers
              ∙ follows_some right-follow (get_or rows i 0) s (ltb_true s places (and_right u v k)) q (ltb_true q places (and_left u v k)) b.stands
              (and_left w (in_mask (get_or right-taking c 0) s) g))
              (and_right w (in_mask (get_or right-taking c 0) s) g),
        );
      }

  taken_next : rights < 2 ^ places → (j s : ℕ) → j < places → Both j s → Next j s
  taken_next narrow j s l t =
      let c = t.by in
      let y = in_mask (get_or left-follow i 0) j in
      let f : (y && in_mask (get_or left-taking c 0) j) ≡ true = sym (in_mask_and (get_or left-follow i 0) (get_or left-taking c 0) j) ∙ t.taken.0 in
      let g : (in_mask rights s && in_mask (get_or right-taking c 0) s) ≡ true = sym (in_mask_and rights (get_or right-taking c 0) s) ∙ t.taken.1 in
      let r = and_left (in_mask rights s) (in_mask (get_or right-taking c 0) s) g in
      let k = in_narrow rights s narrow r in
      let q = followed right-follow (get_or rows i 0) s k (ap (λ (z : ℕ). in_mask z s) (sym followers) ∙ r) in
      record {
        at = q.0;
        by = c;
        stands = q.2;
        from = t.from;
        below = t.below;
        there = t.there;
        left = both_true (both_true (lt_ltb i places at) (lt_ltb j places l)) f;
        right =
            both_true (both_true (lt_ltb q.0 places q.1) (lt_ltb s places k))
            (both_true q.3 (and_right (in_mask rights s) (in_mask (get_or right-taking c 0) s) g));
      }

  pub next_read : rights < 2 ^ places → (after : List ℕ) (left : ℕ) → Grows Both rows todo after left → Grows Next rows todo after left
  next_read narrow after left g = grows_as Both rows todo Next after left g (taken_next narrow) next_taken

  module _ (long : length rows ≡ places) (small : todo < 2 ^ places) where
    -- where no place follows, no pair does
    pub next_no_right : rights ≡ 0 → Grows Next rows todo rows todo
    next_no_right e =
        grows_none Next rows todo long small
        (λ j s b.
        let t = next_taken j s b in
        absurd
        (true_false
        (and_left (in_mask rights s) (in_mask (get_or right-taking t.by 0) s) (sym (in_mask_and rights (get_or right-taking t.by 0) s) ∙ t.taken.1))
        (ap (λ (x : ℕ). in_mask x s) e ∙ in_mask_none s)))

    pub next_no_left : get_or left-follow i 0 ≡ 0 → Grows Next rows todo rows todo
    next_no_left e =
        grows_none Next rows todo long small
        (λ j s b.
        let t = next_taken j s b in
        let x = get_or left-follow i 0 in
        absurd
        (true_false
        (and_left (in_mask x j) (in_mask (get_or left-taking t.by 0) j) (sym (in_mask_and x (get_or left-taking t.by 0) j) ∙ t.taken.0))
        (ap (λ (y : ℕ). in_mask y j) e ∙ in_mask_none j)))
