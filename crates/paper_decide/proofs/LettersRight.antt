-- Where the letters differ there is no clash.
--   uneven_unsolved : counts q.alphabet.space ≡ false → uneven counts q ≡ true → Solution q texts → ⊥, of every test of characters that the space fails
--   letters_unsolved : letters_differ q ≡ true → Solution q texts → ⊥
-- A solution's two labels weigh the same. Each field's text has one of the weights that its texts may have, so that weight is a sum within the
-- bounds, and from the least on by steps.
use Prim.Native.Nat.{ℕ, zero, suc, ◌+◌, ◌-◌, ◌*◌, ◌/◌, ◌%◌, ◌≤◌, ◌<◌}
use native.Mathlib.Nat.{mul_left_comm, mul-mod_left, mul-sub, add_assoc, zero-mul, add-zero, zero-add, add-mul, mul-add, mul_assoc, mul_comm, one-mul, mul-one, div-add-mod', mul-le-mul_left}
use native.Mathlib.Omega.{arith}
use mathlib.Core.Path.{◌≡◌, refl, sym, ap, ap₂, ◌∙◌, subst}
use mathlib.Core.Logic.{◌⊎◌, inl, inr, ⊎_elim}
use mathlib.Core.Bool.{Bool, true, false, not, ◌&&◌, ◌||◌}
use mathlib.Core.List.{List, [], ◌∷◌, ◌++◌, Memᴰ}
use lib.Dec.{ltb, eqb, leb}
use Rattle.paper.specs.Lists.{from, upto, any, all, keep}
use Rattle.paper.specs.Numbers.{fields}
use Rattle.paper.specs.Pattern.{char, range, Pattern, leaf, empty, then, either, many, takes, Fits, one, nothing, both, first, second, none, more, Held, some_text, pattern, Holds}
use Rattle.paper.specs.Equation.{chr, fld, Side, is_field, stands_in, Texts, label, without_trailing, before_dropped, Same}
use Rattle.paper.specs.Question.{Question, held_by, Solution}
use Rattle.paper_laws.proofs.sheets.Asked.{GoodQuestion, fields_known}
use Rattle.paper_decide.specs.Letters.{one_if, weight, divisor_within, divisor, between, Weights, weights_then, weights_either, weights_many, weights_range, pattern_weights, held_weights, side_weight, times, sum_of, divisor_of, surplus, at_least, no_end, at_most, always_lighter, uneven, this_one, all_but, chars_of, letters_differ}
use Rattle.paper.proofs.base.Tests.{by_bool, cond_by, true_false, eqb_true, eqb_false, eqb_same, neq_eqb, leb_true, ltb_true, ltb_false, le_ltb, and_left, and_right, or_is_true, left_true, right_true}
use Rattle.paper.proofs.base.Lists.{from_mem, mem_from, mem_any, mem_upto, mem_keep, any_true, any_false, any_append}

-- x is some multiple of d
abbrev pub Divides : ℕ → ℕ → Type 0
Divides d x = (k : ℕ) × (x ≡ k * d)

divides_0 : (d : ℕ) → Divides d 0
divides_0 d = (0, sym (zero-mul d))

divides_sum : (d x y : ℕ) → Divides d x → Divides d y → Divides d (x + y)
divides_sum d x y (j, e) (k, f) = (j + k, ap₂ ◌+◌ e f ∙ sym (add-mul j k d))

divides_times : (d x n : ℕ) → Divides d x → Divides d (n * x)
divides_times d x n (k, e) = (n * k, ap (λ (y : ℕ). n * y) e ∙ sym (mul_assoc n k d))

divides_through : (d e x : ℕ) → Divides d e → Divides e x → Divides d x
divides_through d e x (j, p) (k, q) = (k * j, q ∙ ap (λ (y : ℕ). k * y) p ∙ sym (mul_assoc k j d))

-- the divisor divides both
within_divides : (n a b : ℕ) → Divides (divisor_within n a b) a × Divides (divisor_within n a b) b
within_divides zero a b = ((a, sym (mul-one a)), (b, sym (mul-one b)))
within_divides (suc n) a b =
    cond_by (λ (d : ℕ). Divides d a × Divides d b) (eqb b 0)
    (λ e. ((1, sym (one-mul a)), (0, eqb_true b 0 e ∙ sym (zero-mul a))))
    (λ e.
    let d = divisor_within n b (a % b) in
    let (in_b, in_rest) = within_divides n b (a % b) in
    (subst (Divides d) (div-add-mod' a b) (divides_sum d (a / b * b) (a % b) (divides_times d b (a / b) in_b) in_rest), in_b))

divides_left : (a b : ℕ) → Divides (divisor a b) a
unfolding divisor
divides_left a b = (within_divides (suc b) a b).0

divides_right : (a b : ℕ) → Divides (divisor a b) b
unfolding divisor
divides_right a b = (within_divides (suc b) a b).1

-- The weights that some texts may have.
pub record Weighs (w : Weights) (x : ℕ) : Type 0 where
  pub steps : ℕ
  pub by_steps : x ≡ w.least + steps * w.step
  pub bounded : w.endless ≡ false → x ≤ w.most

weighs_fixed : (n : ℕ) → Weighs (record { least = n; step = 0; endless = false; most = n }) n
weighs_fixed n = record { steps = 0; by_steps = sym (add-zero n); bounded = λ _. omega arith }

-- a multiple of what the step divides
more_steps : (d s k : ℕ) → Divides d s → (m : ℕ) × (k * s ≡ m * d)
more_steps d s k (j, e) = (k * j, ap (λ (y : ℕ). k * y) e ∙ sym (mul_assoc k j d))

or_left : (a b : Bool) → (a || b) ≡ false → a ≡ false
or_left true b h = h
or_left false b h = refl

or_right : (a b : Bool) → (a || b) ≡ false → b ≡ false
or_right true b h = absurd (true_false refl h)
or_right false b h = h

weighs_then : (a b : Weights) (x y : ℕ) → Weighs a x → Weighs b y → Weighs (weights_then a b) (x + y)
weighs_then a b x y g h =
    let d = divisor a.step b.step in
    let (j, e) = more_steps d a.step g.steps (divides_left a.step b.step) in
    let (k, f) = more_steps d b.step h.steps (divides_right a.step b.step) in
    record {
      steps = j + k;
      by_steps = omega (arith, g.by_steps, h.by_steps, e, f, add-mul j k d);
      bounded = λ none.
          let p = g.bounded (or_left a.endless b.endless none) in
          let q = h.bounded (or_right a.endless b.endless none) in
          omega arith;
    }

-- the lower of two, and what lies between them
module _ (a b : Weights) where
  abbrev all_steps : ℕ
  all_steps = divisor (divisor a.step b.step) (between a.least b.least)

  step_a : Divides all_steps a.step
  step_a = divides_through all_steps (divisor a.step b.step) a.step (divides_left _ _) (divides_left a.step b.step)

  step_b : Divides all_steps b.step
  step_b = divides_through all_steps (divisor a.step b.step) b.step (divides_left _ _) (divides_right a.step b.step)

  step_between : Divides all_steps (between a.least b.least)
  step_between = divides_right (divisor a.step b.step) (between a.least b.least)

  most_a : a.most ≤ (weights_either a b).most
  most_a = cond_by (λ (n : ℕ). a.most ≤ n) (ltb a.most b.most) (λ h. let k = ltb_true a.most b.most h in omega arith) (λ _. omega arith)

  most_b : b.most ≤ (weights_either a b).most
  most_b = cond_by (λ (n : ℕ). b.most ≤ n) (ltb a.most b.most) (λ _. omega arith) (λ h. ltb_false a.most b.most h)

  weighs_first : (x : ℕ) → Weighs a x → Weighs (weights_either a b) x
  weighs_first x g =
      let (j, e) = more_steps all_steps a.step g.steps step_a in
      let (k, f) = step_between in
      by_bool (ltb b.least a.least)
      (λ (h : ltb b.least a.least ≡ true).
      let l = ltb_true b.least a.least h in
      record {
        steps = k + j;
        by_steps = rw h (omega (arith, g.by_steps, e, f, add-mul k j all_steps));
        bounded = λ n. let p = g.bounded (or_left a.endless b.endless n) in omega (arith, most_a);
      })
      (λ (h : ltb b.least a.least ≡ false).
      record {
        steps = j;
        by_steps = rw h (omega (arith, g.by_steps, e));
        bounded = λ n. let p = g.bounded (or_left a.endless b.endless n) in omega (arith, most_a);
      })

  weighs_second : (x : ℕ) → Weighs b x → Weighs (weights_either a b) x
  weighs_second x g =
      let (j, e) = more_steps all_steps b.step g.steps step_b in
      let (k, f) = step_between in
      by_bool (ltb b.least a.least)
      (λ (h : ltb b.least a.least ≡ true).
      record {
        steps = j;
        by_steps = rw h (omega (arith, g.by_steps, e));
        bounded = λ n. let p = g.bounded (or_right a.endless b.endless n) in omega (arith, most_b);
      })
      (λ (h : ltb b.least a.least ≡ false).
      let l = ltb_false b.least a.least h in
      record {
        steps = k + j;
        by_steps = rw h (omega (arith, g.by_steps, e, f, add-mul k j all_steps));
        bounded = λ n. let p = g.bounded (or_right a.endless b.endless n) in omega (arith, most_b);
      })

weighs_none : (a : Weights) → Weighs (weights_many a) 0
weighs_none a = record { steps = 0; by_steps = omega (arith, zero-mul (weights_many a).step); bounded = λ _. omega arith }

weighs_more : (a : Weights) (x y : ℕ) → Weighs a x → Weighs (weights_many a) y → Weighs (weights_many a) (x + y)
weighs_more a x y g h =
    let d = divisor a.least a.step in
    let (i, p) = divides_left a.least a.step in
    let (j, e) = more_steps d a.step g.steps (divides_right a.least a.step) in
    let k = h.steps in
    record {
      steps = (i + j) + k;
      by_steps = omega (arith, g.by_steps, h.by_steps, p, e, add-mul (i + j) k d, add-mul i j d);
      bounded = λ none.
          let in-a = g.bounded (or_left a.endless (not (eqb a.most 0)) none) in
          let z = none_most a.most (or_right a.endless (not (eqb a.most 0)) none) in
          let q = h.bounded none in
          omega arith;
    }
  where
    none_most : (n : ℕ) → not (eqb n 0) ≡ false → n ≡ 0
    none_most n h = by_bool (eqb n 0) (λ e. eqb_true n 0 e) (λ (e : eqb n 0 ≡ false). absurd (true_false refl (rw e at h)))

-- Characters of a range: none counts, all do, or some.
module _ (counts : ℕ → Bool) where
  range_taken : (lo n c : ℕ) → lo ≤ c → c < lo + n → Weighs (weights_range counts lo n) (one_if (counts c))
  range_taken lo n c low high =
      let d = from_mem lo n low high in
      by_bool (counts c)
      (λ (e : counts c ≡ true).
      let some = mem_any counts (from lo n) d e in
      by_bool (all counts (from lo n))
      (λ (a : all counts (from lo n) ≡ true). rw (e, some, a) (weighs_fixed 1))
      (λ (a : all counts (from lo n) ≡ false). rw (e, some, a) (record { steps = 1; by_steps = refl; bounded = λ _. omega arith })))
      (λ (e : counts c ≡ false).
      let not-all = all_not counts (from lo n) d e in
      by_bool (any counts (from lo n))
      (λ (a : any counts (from lo n) ≡ true). rw (e, not-all, a) (record { steps = 0; by_steps = refl; bounded = λ _. omega arith }))
      (λ (a : any counts (from lo n) ≡ false). rw (e, not-all, a) (weighs_fixed 0)))
    where
      all_not : (p : ℕ → Bool) (l : List ℕ) {x : ℕ} → Memᴰ x l → p x ≡ false → all p l ≡ false
      all_not p [] d e = elim d [ ]
      all_not p (y ∷ l) (Memᴰ.head h) e = rw (← h, e)
      all_not p (y ∷ l) (Memᴰ.tail d) e =
          by_bool (p y) (λ (h : p y ≡ true). rw h (all_not p l d e)) (λ (h : p y ≡ false). rw h)

  weight_append : (u v : List ℕ) → weight counts (u ++ v) ≡ weight counts u + weight counts v
  weight_append [] v = sym (zero-add (weight counts v))
  weight_append (c ∷ u) v = let e = weight_append u v in omega arith

  leaf_weighs : (lo hi c : ℕ) → takes (range lo hi) c ≡ true → Weighs (weights_range counts lo (suc hi - lo)) (one_if (counts c))
  leaf_weighs lo hi c e =
      let low = leb_true lo c (and_left (leb lo c) (leb c hi) e) in
      let high = leb_true c hi (and_right (leb lo c) (leb c hi) e) in
      range_taken lo (suc hi - lo) c low (omega arith)

  -- every text of a pattern
  pub fits_weighs : (p : Pattern) (w : List ℕ) → Fits p w → Weighs (pattern_weights counts p) (weight counts w)
  fits_weighs (leaf (char a)) w (one {c = c} e) = rw (eqb_true a c e, add-zero (one_if (counts c))) (weighs_fixed (one_if (counts c)))
  fits_weighs (leaf (range lo hi)) w (one {c = c} e) = rw (add-zero (one_if (counts c))) (leaf_weighs lo hi c e)
  fits_weighs empty w nothing = weighs_fixed 0
  fits_weighs (then a b) w (both {u = u} {v = v} e f g) =
      rw (e, weight_append u v) (weighs_then (pattern_weights counts a) (pattern_weights counts b) (weight counts u) (weight counts v) (fits_weighs a u f) (fits_weighs b v g))
  fits_weighs (either a b) w (first f) = weighs_first (pattern_weights counts a) (pattern_weights counts b) (weight counts w) (fits_weighs a w f)
  fits_weighs (either a b) w (second f) = weighs_second (pattern_weights counts a) (pattern_weights counts b) (weight counts w) (fits_weighs b w f)
  fits_weighs (many a) w none = weighs_none (pattern_weights counts a)
  fits_weighs (many a) w (more {u = u} {v = v} e f g) =
      rw (e, weight_append u v) (weighs_more (pattern_weights counts a) (weight counts u) (weight counts v) (fits_weighs a u f) (fits_weighs (many a) v g))

  pub holds_weighs : (h : Held) (w : List ℕ) → Holds h w → Weighs (held_weights counts h) (weight counts w)
  holds_weighs some_text w e =
      record { steps = weight counts w; by_steps = omega (arith, mul-one (weight counts w)); bounded = λ (n : true ≡ false). absurd (true_false refl n) }
  holds_weighs (pattern p) w e = fits_weighs p w e

  -- Spaces at the end weigh nothing.
  module _ (space : ℕ) (light : counts space ≡ false) where
    dropped_weight : (c : ℕ) (w : List ℕ) → weight counts (before_dropped space c w) ≡ one_if (counts c) + weight counts w
    dropped_weight c [] =
        cond_by (λ (l : List ℕ). weight counts l ≡ one_if (counts c) + 0) (eqb c space) (λ e. rw (eqb_true c space e, light)) (λ _. refl)
    dropped_weight c (d ∷ w) = refl

    trailing_weight : (w : List ℕ) → weight counts (without_trailing space w) ≡ weight counts w
    trailing_weight [] = refl
    trailing_weight (c ∷ w) = dropped_weight c (without_trailing space w) ∙ ap (λ (n : ℕ). one_if (counts c) + n) (trailing_weight w)

    same_weight : (l m : List ℕ) → Same space l m → weight counts l ≡ weight counts m
    same_weight l m e = sym (trailing_weight l) ∙ ap (weight counts) e ∙ trailing_weight m

-- Sums over fields.
module _ (g h : ℕ → ℕ) where
  sum_add : (fs : List ℕ) → sum_of (λ (f : ℕ). g f + h f) fs ≡ sum_of g fs + sum_of h fs
  sum_add [] = refl
  sum_add (f ∷ fs) = let e = sum_add fs in omega arith

  pub sum_same : (fs : List ℕ) → ((f : ℕ) → Memᴰ f fs → g f ≡ h f) → sum_of g fs ≡ sum_of h fs
  sum_same [] e = refl
  sum_same (f ∷ fs) e = ap₂ ◌+◌ (e f (Memᴰ.head refl)) (sum_same fs (λ k d. e k (Memᴰ.tail d)))

  sum_below : (fs : List ℕ) → ((f : ℕ) → Memᴰ f fs → g f ≤ h f) → sum_of g fs ≤ sum_of h fs
  sum_below [] e = omega arith
  sum_below (f ∷ fs) e =
      let first = e f (Memᴰ.head refl) in
      let rest = sum_below fs (λ k d. e k (Memᴰ.tail d)) in
      omega arith

sum_none : (g : ℕ → ℕ) (fs : List ℕ) → ((f : ℕ) → Memᴰ f fs → g f ≡ 0) → sum_of g fs ≡ 0
sum_none g [] h = refl
sum_none g (f ∷ fs) h = let a = h f (Memᴰ.head refl) in let b = sum_none g fs (λ k d. h k (Memᴰ.tail d)) in omega arith

-- one field of them
sum_one : (g : ℕ) (x : ℕ → ℕ) (a n : ℕ) → a ≤ g → g < a + n → sum_of (λ (f : ℕ). one_if (eqb f g) * x f) (from a n) ≡ x g
sum_one g x a zero h k = absurd (omega arith)
sum_one g x a (suc n) h k =
    by_bool (eqb a g)
    (λ (e : eqb a g ≡ true).
    let same = eqb_true a g e in
    let rest = sum_none (λ (f : ℕ). one_if (eqb f g) * x f) (from (suc a) n)
    (λ f d. let (low, high) = mem_from (suc a) n d in rw (neq_eqb f g (λ (p : f ≡ g). omega arith)) (zero-mul (x f))) in
    rw (e, rest, one-mul (x a), add-zero (x a)) (ap x same))
    (λ (e : eqb a g ≡ false).
    let other : a ≡ g → ⊥ = eqb_false a g e in
    rw (e, zero-mul (x a), zero-add (sum_of (λ (f : ℕ). one_if (eqb f g) * x f) (from (suc a) n))) (sum_one g x (suc a) n (omega arith) (omega arith)))

-- A label weighs what its side's characters weigh, and each field's text as often as the field stands.
module _ (counts : ℕ → Bool) (texts : Texts) where
  abbrev x : ℕ → ℕ
  x f = weight counts (texts f)

  pub label_weight : (side : Side) → ((f : ℕ) → stands_in f side ≡ true → f < fields)
      → weight counts (label texts side) ≡ side_weight counts side + sum_of (λ (f : ℕ). times f side * x f) (upto fields)
  label_weight [] known = sym (ap (λ (n : ℕ). 0 + n) (sum_none (λ (f : ℕ). 0 * x f) (upto fields) (λ f _. zero-mul (x f))))
  label_weight (chr c ∷ side) known =
      let e = label_weight side (λ f h. known f h) in
      let same = sum_same (λ (f : ℕ). times f (chr c ∷ side) * x f) (λ (f : ℕ). times f side * x f) (upto fields)
      (λ f _. ap (λ (n : ℕ). n * x f) (zero-add (times f side))) in
      omega (arith, e, same)
  label_weight (fld g ∷ side) known =
      let e = label_weight side (λ f h. known f (right_true (eqb f g) (stands_in f side) h)) in
      let one = sum_one g x 0 fields (omega arith) (omega (arith, known g (left_true (eqb g g) (stands_in g side) (eqb_same g)))) in
      let parts = sum_same (λ (f : ℕ). times f (fld g ∷ side) * x f) (λ (f : ℕ). one_if (eqb f g) * x f + times f side * x f) (upto fields)
      (λ f _. add-mul (one_if (eqb f g)) (times f side) (x f)) in
      let sum = sum_add (λ (f : ℕ). one_if (eqb f g) * x f) (λ (f : ℕ). times f side * x f) (upto fields) in
      omega (arith, e, one, parts, sum, weight_append counts (texts g) (label texts side))

-- the divisor of several divides each
divides_each : (g : ℕ → ℕ) (fs : List ℕ) (f : ℕ) → Memᴰ f fs → Divides (divisor_of g fs) (g f)
divides_each g (h ∷ fs) f (Memᴰ.head e) = rw e (divides_left (g h) (divisor_of g fs))
divides_each g (h ∷ fs) f (Memᴰ.tail d) =
    divides_through (divisor_of g (h ∷ fs)) (divisor_of g fs) (g f) (divides_right (g h) (divisor_of g fs)) (divides_each g fs f d)
divides_each g [] f x'' = elim x'' [ ]

divides_all : (d : ℕ) (g : ℕ → ℕ) (fs : List ℕ) → ((f : ℕ) → Memᴰ f fs → Divides d (g f)) → Divides d (sum_of g fs)
divides_all d g [] h = divides_0 d
divides_all d g (f ∷ fs) h = divides_sum d (g f) (sum_of g fs) (h f (Memᴰ.head refl)) (divides_all d g fs (λ k e. h k (Memᴰ.tail e)))

-- One side after cancelling, with texts of which each has one of its weights.
module _ (counts : ℕ → Bool) (held : ℕ → Held) (side other : Side) (x : ℕ → ℕ)
    (its : (f : ℕ) → f < fields → stands_in f side ≡ true → Weighs (held_weights counts (held f)) (x f)) where
  abbrev over : ℕ → ℕ
  over f = surplus counts held side other f

  abbrev kinds : ℕ → Weights
  kinds f = held_weights counts (held f)

  -- a field that doesn't stand has none too many
  no_times : (s : Side) (f : ℕ) → stands_in f s ≡ false → times f s ≡ 0
  no_times [] f h = refl
  no_times (chr c ∷ s) f h = let e = no_times s f h in omega arith
  no_times (fld g ∷ s) f h =
      let e = no_times s f (or_right (eqb f g) (stands_in f s) h) in
      rw (or_left (eqb f g) (stands_in f s) h) (omega arith)

  by_surplus : (P : ℕ → Type 0) (f : ℕ) → f < fields → P 0 → (Weighs (kinds f) (x f) → P (over f)) → P (over f)
  by_surplus P f k z h =
      by_bool (stands_in f side) (λ (e : stands_in f side ≡ true). h (its f k e))
      (λ (e : stands_in f side ≡ false). let none = no_times side f e in let zero-over : 0 ≡ over f = omega arith in subst P zero-over z)

  abbrev heavy : ℕ
  heavy = side_weight counts side + sum_of (λ (f : ℕ). over f * x f) (upto fields)

  abbrev lightest : ℕ
  lightest = at_least counts held side other

  lightest_below : lightest ≤ heavy
  lightest_below =
      let sums = sum_below (λ (f : ℕ). over f * (kinds f).least) (λ (f : ℕ). over f * x f) (upto fields)
      (λ f d. by_surplus (λ (n : ℕ). n * (kinds f).least ≤ n * x f) f (mem_upto fields d) (omega (arith, zero-mul (kinds f).least, zero-mul (x f)))
      (λ w. mul-le-mul_left (over f) (omega (arith, w.by_steps)))) in
      omega arith

  heaviest_above : no_end counts held side other ≡ false → heavy ≤ at_most counts held side other
  heaviest_above ends =
      let sums = sum_below (λ (f : ℕ). over f * x f) (λ (f : ℕ). over f * (kinds f).most) (upto fields)
      (λ f d. one_field f d (any_false (λ (f : ℕ). ltb 0 (over f) && (kinds f).endless) (upto fields) ends d)) in
      omega arith
    where
      one_field : (f : ℕ) → Memᴰ f (upto fields) → (ltb 0 (over f) && (kinds f).endless) ≡ false → over f * x f ≤ over f * (kinds f).most
      one_field f d e =
          by_bool (ltb 0 (over f))
          (λ (h : ltb 0 (over f) ≡ true).
          let bounded : (kinds f).endless ≡ false = rw h at e in
          let some = ltb_true 0 (over f) h in
          by_surplus (λ (n : ℕ). n * x f ≤ n * (kinds f).most) f (mem_upto fields d) (omega (arith, zero-mul (kinds f).most, zero-mul (x f)))
          (λ w. mul-le-mul_left (over f) (w.bounded bounded)))
          (λ (h : ltb 0 (over f) ≡ false).
          let zero-over : over f ≡ 0 = let k = ltb_false 0 (over f) h in omega arith in
          rw zero-over (omega (arith, zero-mul (kinds f).most, zero-mul (x f))))

  by_steps_of : (d : ℕ) → ((f : ℕ) → Memᴰ f (upto fields) → Divides d (over f * (kinds f).step)) → (k : ℕ) × (heavy ≡ lightest + k * d)
  by_steps_of d h =
      let (k, e) = sum_steps (upto fields) (λ f m. mem_upto fields m) h in (
        k,
        ap (λ (n : ℕ). side_weight counts side + n) e
            ∙ sym (add_assoc (side_weight counts side) (sum_of (λ (f : ℕ). over f * (kinds f).least) (upto fields)) (k * d)),
      )
    where
      one_step : (f : ℕ) → f < fields → Divides d (over f * (kinds f).step) → (k : ℕ) × (over f * x f ≡ over f * (kinds f).least + k * d)
      one_step f k m =
          by_surplus (λ (n : ℕ). (k : ℕ) × (n * x f ≡ n * (kinds f).least + k * d)) f k
          (0, omega (arith, zero-mul (x f), zero-mul (kinds f).least, zero-mul d))
          (λ w.
          let (j, e) = m in
          let j-times = ap (λ (y : ℕ). w.steps * y) e ∙ sym (mul_assoc w.steps j d) in
          let turned : over f * (w.steps * (kinds f).step) ≡ w.steps * (over f * (kinds f).step) = mul_left_comm (over f) w.steps (kinds f).step in (
            w.steps * j,
            ap (λ (y : ℕ). over f * y) w.by_steps ∙ mul-add (over f) (kinds f).least (w.steps * (kinds f).step)
                ∙ ap (λ (y : ℕ). over f * (kinds f).least + y) (turned ∙ j-times),
          ))

      sum_steps : (fs : List ℕ) → ((f : ℕ) → Memᴰ f fs → f < fields) → ((f : ℕ) → Memᴰ f fs → Divides d (over f * (kinds f).step))
          → (k : ℕ) × (sum_of (λ (f : ℕ). over f * x f) fs ≡ sum_of (λ (f : ℕ). over f * (kinds f).least) fs + k * d)
      sum_steps [] known m = (0, sym (zero-mul d) ∙ sym (zero-add (0 * d)))
      sum_steps (f ∷ fs) known m =
          let (j, e) = one_step f (known f (Memᴰ.head refl)) (m f (Memᴰ.head refl)) in
          let (k, g) = sum_steps fs (λ h i. known h (Memᴰ.tail i)) (λ h i. m h (Memᴰ.tail i)) in
          (j + k, omega (arith, e, g, add-mul j k d))

-- what is equal from two leasts on by steps: the step divides what lies between them
sub_mul : (j k d : ℕ) → (j - k) * d ≡ j * d - k * d
sub_mul j k d = mul_comm (j - k) d ∙ mul-sub d j k ∙ ap₂ ◌-◌ (mul_comm d j) (mul_comm d k)

divides_between : (a b d j k : ℕ) → a + j * d ≡ b + k * d → Divides d (between a b)
divides_between a b d j k e =
    by_bool (ltb a b)
    (λ (h : ltb a b ≡ true). let l = ltb_true a b h in (j - k, omega (arith, sub_mul j k d)))
    (λ (h : ltb a b ≡ false). let l = ltb_false a b h in (k - j, omega (arith, sub_mul k j d)))

-- Both sides.
module _ (counts : ℕ → Bool) (q : Question) (g : GoodQuestion q) (light : counts q.alphabet.space ≡ false) (texts : Texts) (sol : Solution q texts) where
  abbrev weights_of : ℕ → ℕ
  weights_of f = weight counts (texts f)

  abbrev held : ℕ → Held
  held = held_by q

  abbrev l : Side
  l = q.left

  abbrev r : Side
  r = q.right

  in_left : (f : ℕ) → stands_in f l ≡ true → stands_in f (l ++ r) ≡ true
  in_left f e = any_append (is_field f) l r ∙ left_true (stands_in f l) (stands_in f r) e

  in_right : (f : ℕ) → stands_in f r ≡ true → stands_in f (l ++ r) ≡ true
  in_right f e = any_append (is_field f) l r ∙ right_true (stands_in f l) (stands_in f r) e

  its_left : (f : ℕ) → f < fields → stands_in f l ≡ true → Weighs (held_weights counts (held f)) (weights_of f)
  its_left f _ e = holds_weighs counts (held f) (texts f) (sol.holds f (in_left f e))

  its_right : (f : ℕ) → f < fields → stands_in f r ≡ true → Weighs (held_weights counts (held f)) (weights_of f)
  its_right f _ e = holds_weighs counts (held f) (texts f) (sol.holds f (in_right f e))

  -- the sums of the fields as often as they stand, and after cancelling
  cancelled : (a b : Side) (fs : List ℕ)
      → sum_of (λ (f : ℕ). times f a * weights_of f) fs + sum_of (λ (f : ℕ). surplus counts held b a f * weights_of f) fs
      ≡ sum_of (λ (f : ℕ). times f b * weights_of f) fs + sum_of (λ (f : ℕ). surplus counts held a b f * weights_of f) fs
  cancelled a b [] = refl
  cancelled a b (f ∷ fs) =
      let e = cancelled a b fs in
      let i = times f a in
      let j = times f b in
      let w = weights_of f in
      let one : i * w + (j - i) * w ≡ j * w + (i - j) * w = sym (add-mul i (j - i) w) ∙ ap (λ (n : ℕ). n * w) (omega arith) ∙ add-mul j (i - j) w in
      omega arith

  same_heavy : heavy counts held l r weights_of its_left ≡ heavy counts held r l weights_of its_right
  same_heavy =
      let labels = same_weight counts q.alphabet.space light (label texts l) (label texts r) sol.same_label in
      let left = label_weight counts texts l (λ f e. fields_known q g f (in_left f e)) in
      let right = label_weight counts texts r (λ f e. fields_known q g f (in_right f e)) in
      sums (side_weight counts l) (side_weight counts r)
      (sum_of (λ (f : ℕ). times f l * weights_of f) (upto fields)) (sum_of (λ (f : ℕ). times f r * weights_of f) (upto fields))
      (sum_of (λ (f : ℕ). surplus counts held l r f * weights_of f) (upto fields)) (sum_of (λ (f : ℕ). surplus counts held r l f * weights_of f) (upto fields))
      (sym left ∙ labels ∙ right) (cancelled l r (upto fields))
    where
      sums : (a b i j m n : ℕ) → a + i ≡ b + j → i + n ≡ j + m → a + m ≡ b + n
      sums a b i j m n e f = omega arith

  abbrev steps_all : ℕ
  steps_all = divisor_of (λ (f : ℕ). between (times f l) (times f r) * (held_weights counts (held f)).step) (upto fields)

  surplus_divides : (f : ℕ) → Memᴰ f (upto fields) → (n : ℕ) → (n ≡ 0) ⊎ (n ≡ between (times f l) (times f r))
      → Divides steps_all (n * (held_weights counts (held f)).step)
  surplus_divides f d n =
      ⊎_elim (λ (z : n ≡ 0). rw (z, zero-mul (held_weights counts (held f)).step) (divides_0 steps_all))
      (λ (e : n ≡ between (times f l) (times f r)). rw e (divides_each (λ (f : ℕ). between (times f l) (times f r) * (held_weights counts (held f)).step) (upto fields) f d))

  one_of : (a b : ℕ) → ((a - b) ≡ 0) ⊎ ((a - b) ≡ between a b)
  one_of a b =
      by_bool (ltb b a)
      (λ (h : ltb b a ≡ true). let k = ltb_true b a h in inr (omega arith))
      (λ (h : ltb b a ≡ false). let k = ltb_false b a h in inl (omega arith))

  between_turned : (a b : ℕ) → between a b ≡ between b a
  between_turned a b = omega arith

  uneven_false : uneven counts q ≡ false
  unfolding uneven
  uneven_false =
      let (j, left) = by_steps_of counts held l r weights_of its_left steps_all (λ f d. surplus_divides f d (times f l - times f r) (one_of (times f l) (times f r))) in
      let (k, right) = by_steps_of counts held r l weights_of its_right steps_all
      (λ f d. surplus_divides f d (times f r - times f l)
      (subst (λ (n : ℕ). ((times f r - times f l) ≡ 0) ⊎ ((times f r - times f l) ≡ n)) (between_turned (times f r) (times f l)) (one_of (times f r) (times f l)))) in
      let (m, e) = divides_between (at_least counts held l r) (at_least counts held r l) steps_all j k (sym left ∙ same_heavy ∙ right) in
      let even : eqb (between (at_least counts held l r) (at_least counts held r l) % steps_all) 0 ≡ true =
      rw (e, mul-mod_left m steps_all) in
      rw (lighter l r weights_of its_left (at_least counts held r l) (subst (λ (n : ℕ). at_least counts held r l ≤ n) (sym same_heavy) (lightest_below counts held r l weights_of its_right)))
      (rw (lighter r l weights_of its_right (at_least counts held l r) (subst (λ (n : ℕ). at_least counts held l r ≤ n) same_heavy (lightest_below counts held l r weights_of its_left)))
      (rw even))
    where
      lighter : (a b : Side) (x : ℕ → ℕ) (its : (f : ℕ) → f < fields → stands_in f a ≡ true → Weighs (held_weights counts (held f)) (x f)) (n : ℕ)
          → n ≤ heavy counts held a b x its → always_lighter counts held a b n ≡ false
      lighter a b x its n h =
          by_bool (no_end counts held a b)
          (λ (e : no_end counts held a b ≡ true). rw e)
          (λ (e : no_end counts held a b ≡ false).
          let top = heaviest_above counts held a b x its e in
          rw (e, le_ltb (at_most counts held a b) n (below n (heavy counts held a b x its) (at_most counts held a b) h top)))
        where
          below : (n m k : ℕ) → n ≤ m → m ≤ k → n ≤ k
          below n m k a b = omega arith

pub uneven_unsolved : (counts : ℕ → Bool) (q : Question) → GoodQuestion q → counts q.alphabet.space ≡ false → uneven counts q ≡ true
    → (texts : Texts) → Solution q texts → ⊥
uneven_unsolved counts q g light e texts sol = true_false e (uneven_false counts q g light texts sol)

pub letters_unsolved : (q : Question) → GoodQuestion q → letters_differ q ≡ true → (texts : Texts) → Solution q texts → ⊥
unfolding letters_differ
letters_unsolved q g e texts sol =
    let space = q.alphabet.space in
    ⊎_elim
    (λ (h : uneven (all_but space) q ≡ true). uneven_unsolved (all_but space) q g (rw (eqb_same space)) h texts sol)
    (λ (h : any (λ (c : ℕ). uneven (this_one c) q) (keep (all_but space) (chars_of (q.left ++ q.right))) ≡ true).
    let (c, d, u) = any_true (λ (c : ℕ). uneven (this_one c) q) (keep (all_but space) (chars_of (q.left ++ q.right))) h in
    let other = (mem_keep (all_but space) (chars_of (q.left ++ q.right)) d).1 in
    uneven_unsolved (this_one c) q g (differs c space other) u texts sol)
    (or_is_true (uneven (all_but space) q) (any (λ (c : ℕ). uneven (this_one c) q) (keep (all_but space) (chars_of (q.left ++ q.right)))) e)
  where
    differs : (c space : ℕ) → not (eqb space c) ≡ true → eqb c space ≡ false
    differs c space h =
        by_bool (eqb c space) (λ (e : eqb c space ≡ true). absurd (true_false h (rw (eqb_true c space e, eqb_same space)))) (λ e. e)
