-- No weight on the stack is large, and the stack is not deep.
--   stack_size  : all that stands on the stack comes to at most 2 for each code
--   stack_small : so each of it has room (`Packing.Small`), and so has what a field may hold (`field_small`)
--   stack_depth : there is at most one on it for each code
-- Follows by induction on the codes: an operator makes no more of what it uses.
use Prim.Native.Nat.{ℕ, zero, suc, ◌+◌, ◌-◌, ◌*◌, ◌≤◌}
use native.Mathlib.Omega.{arith}
use mathlib.Core.Path.{◌≡◌, refl}
use mathlib.Core.Bool.{Bool, true, false, cond}
use mathlib.Core.List.{List, [], ◌∷◌}
use lib.Dec.{ltb, eqb}
use lib.ListN.{length, get_or, take, drop, length-drop, length-take, length-map}
use Rattle.paper.specs.Lists.{from, any, all}
use Rattle.paper.specs.Numbers.{empty_code, range_code, then_code, or_code, many_code, rule_fields, pattern_bytes}
use Rattle.paper.specs.Alphabet.{Edition, code, codes}
use Rattle.paper.proofs.base.Tests.{by_bool, cond_by, ltb_true, ltb_false}
use Rattle.paper_decide.specs.Letters.{one_if, divisor, between, Weights, weights_then, weights_either, weights_many}
use Rattle.base_question.specs.Bodies.{nowhere}
use Rattle.base_question.specs.declared.Body.{Body}
use Rattle.decide_letters.specs.PatternStack.{weightless, spread, uses, made, stack_of}
use Rattle.decide_letters.specs.LettersCoded.{bytes_at, body_weights, field_weights}
use Rattle.decide_letters.proofs.Packing.{Small}
use Rattle.decide_letters.proofs.Divisors.{divisor_le}

abbrev pub size : Weights → ℕ
size w = w.least + w.step + w.most

abbrev pub sizes : List Weights → ℕ
sizes [] = 0
sizes (w ∷ s) = size w + sizes s

-- those on top, and what is below them
one_off : (s : List Weights) → sizes s ≡ size (get_or s 0 weightless) + sizes (drop 1 s)
one_off [] = refl
one_off (v ∷ s) = refl

two_off : (s : List Weights) → sizes s ≡ size (get_or s 0 weightless) + (size (get_or s 1 weightless) + sizes (drop 2 s))
two_off [] = refl
two_off (v ∷ []) = refl
two_off (v ∷ w ∷ s) = refl

pub size_at : (s : List Weights) (k : ℕ) → size (get_or s k weightless) ≤ sizes s
size_at [] k = omega arith
size_at (w ∷ s) zero = omega arith
size_at (w ∷ s) (suc k) = omega (arith, size_at s k)

-- what each code makes
size_then : (a b : Weights) → size (weights_then a b) ≤ size a + size b
size_then a b = omega (arith, divisor_le a.step b.step)

least_either : (a b : Weights) → (weights_either a b).least + between a.least b.least ≤ a.least + b.least
least_either a b =
    cond_by (λ (n : ℕ). n + between a.least b.least ≤ a.least + b.least) (ltb b.least a.least)
    (λ h. let k = ltb_true b.least a.least h in omega arith)
    (λ h. let k = ltb_false b.least a.least h in omega arith)

most_either : (a b : Weights) → (weights_either a b).most ≤ a.most + b.most
most_either a b = cond_by (λ (n : ℕ). n ≤ a.most + b.most) (ltb a.most b.most) (λ _. omega arith) (λ _. omega arith)

size_either : (a b : Weights) → size (weights_either a b) ≤ size a + size b
size_either a b =
    let both = divisor a.step b.step in
    omega (arith, least_either a b, most_either a b, divisor_le both (between a.least b.least), divisor_le a.step b.step)

size_many : (a : Weights) → size (weights_many a) ≤ size a
size_many a = omega (arith, divisor_le a.least a.step)

one_if_le : (b : Bool) → one_if b ≤ 1
one_if_le true = omega arith
one_if_le false = omega arith

size_spread : (a b : Bool) → size (spread a b) ≤ 2
size_spread a b = omega (arith, one_if_le a, one_if_le b)

module _ (counts : ℕ → Bool) where
  made_size : (b lo hi : ℕ) (s : List Weights)
      → size (made counts b lo hi (get_or s 0 weightless) (get_or s 1 weightless)) + sizes (drop (uses b) s) ≤ 2 + sizes s
  made_size b lo hi s =
      let v = get_or s 0 weightless in
      let w = get_or s 1 weightless in
      by_bool (eqb b then_code)
      (λ (e : eqb b then_code ≡ true). rw e (omega (arith, size_then v w, two_off s)))
      (λ (e : eqb b then_code ≡ false). by_bool (eqb b or_code)
      (λ (f : eqb b or_code ≡ true). rw (e, f) (omega (arith, size_either v w, two_off s)))
      (λ (f : eqb b or_code ≡ false). by_bool (eqb b range_code)
      (λ (g : eqb b range_code ≡ true).
      let n = suc hi - lo in
      by_bool (eqb b many_code)
      (λ (h : eqb b many_code ≡ true). rw (e, f, g, h) (omega (arith, size_many v, one_off s, two_off s)))
      (λ (h : eqb b many_code ≡ false). rw (e, f, g, h) (omega (arith, size_spread (all counts (from lo n)) (any counts (from lo n)), two_off s))))
      (λ (g : eqb b range_code ≡ false). by_bool (eqb b many_code)
      (λ (h : eqb b many_code ≡ true). rw (e, f, g, h) (omega (arith, size_many v, one_off s)))
      (λ (h : eqb b many_code ≡ false). by_bool (eqb b empty_code)
      (λ (i : eqb b empty_code ≡ true). rw (e, f, g, h, i) (omega arith))
      (λ (i : eqb b empty_code ≡ false). rw (e, f, g, h, i) (omega (arith, one_if_le (counts b))))))))

  pub stack_size : (cs : List ℕ) → sizes (stack_of counts cs) ≤ 2 * length cs
  stack_size [] = omega arith
  stack_size (b ∷ cs) =
      let s = stack_of counts cs in
      omega (arith, made_size b (get_or cs 0 0) (get_or cs 1 0) s, stack_size cs)

  pub stack_depth : (cs : List ℕ) → length (stack_of counts cs) ≤ length cs
  stack_depth [] = omega arith
  stack_depth (b ∷ cs) = omega (arith, length-drop (uses b) (stack_of counts cs), stack_depth cs)

  small_of : (w : Weights) → size w ≤ 2 * pattern_bytes → Small w
  small_of w h = record { least = omega arith; step = omega arith; most = omega arith }

  pub stack_small : (cs : List ℕ) → length cs ≤ pattern_bytes → (k : ℕ) → Small (get_or (stack_of counts cs) k weightless)
  stack_small cs h k = small_of (get_or (stack_of counts cs) k weightless) (omega (arith, size_at (stack_of counts cs) k, stack_size cs))

  pub body_small : (e : Edition) (s : List ℕ) (b : Body) → Small (body_weights counts e s b)
  unfolding body_weights
  body_small e s b =
      let there = take b.length (drop b.start s) in
      cond_by Small (eqb b.length 0) (λ _. record { least = omega arith; step = omega arith; most = omega arith })
      (λ _. stack_small (codes e (bytes_at b s)) (omega (arith, length-map (bytes_at b s) (code e), length-take pattern_bytes there)) 0)

  pub field_small : (e : Edition) (bodies : List Body) (first second : List ℕ) (f : ℕ) → Small (field_weights counts e bodies first second f)
  unfolding field_weights
  field_small e bodies first second f = body_small e (cond (ltb f rule_fields) first second) (get_or bodies f nowhere)
