-- "Letters": in a label that both rules make, each character stands as often by the one as by the other. What counts is a test of characters that the
-- space fails, since hidden fields hold any number of those: one character alone, or all but the space. "Each field's texts have a least weight,
-- perhaps a most, and a step between. .. A field counts by how often it stands on the left less how often on the right. If no choice of such weights
-- makes both sides equal (the interval of the sum leaves it out, or the common divisor of coefficient times step does), there is no clash".
use Rattle.std.specs.Prelude.{ℕ, zero, suc, ◌+◌, ◌-◌, ◌*◌, ◌%◌, Bool, true, false, cond, not, ◌&&◌, ◌||◌, List, [], ◌∷◌, ◌++◌, ltb, eqb}
use Rattle.paper.specs.Lists.{from, upto, any, all, keep}
use Rattle.paper.specs.Numbers.{fields}
use Rattle.paper.specs.Pattern.{char, range, Pattern, leaf, empty, then, either, many, Held, some_text, pattern}
use Rattle.paper.specs.Equation.{Token, chr, fld, Side, is_field}
use Rattle.paper.specs.Question.{Question, held_by}

-- how many of a text count
abbrev pub one_if : Bool → ℕ
one_if b = cond b 1 0

abbrev pub weight : (ℕ → Bool) → List ℕ → ℕ
weight counts [] = 0
weight counts (c ∷ w) = one_if (counts c) + weight counts w

-- The common divisor. (With enough turns, as many as b and one, the last line is never met.)
abbrev pub divisor_within : ℕ → ℕ → ℕ → ℕ
divisor_within zero a b = 1
divisor_within (suc n) a b = cond (eqb b 0) a (divisor_within n b (a % b))

unfoldable pub divisor : ℕ → ℕ → ℕ
divisor a b = divisor_within (suc b) a b

abbrev pub between : ℕ → ℕ → ℕ
between a b = (a - b) + (b - a)

-- The weights of some texts: none is below the least or, unless they are endless, above the most; and from the least on they go by steps. A step of 0:
-- there is one weight.
pub record Weights : Type 0 where
  pub least : ℕ
  pub step : ℕ
  pub endless : Bool
  pub most : ℕ

abbrev pub fixed_weight : ℕ → Weights
fixed_weight n = record { least = n; step = 0; endless = false; most = n }

-- a text of the one behind a text of the other
abbrev pub weights_then : Weights → Weights → Weights
weights_then a b =
    record {
      least = a.least + b.least;
      step = divisor a.step b.step;
      endless = a.endless || b.endless;
      most = a.most + b.most;
    }

-- a text of either
abbrev pub weights_either : Weights → Weights → Weights
weights_either a b =
    record {
      least = cond (ltb b.least a.least) b.least a.least;
      step = divisor (divisor a.step b.step) (between a.least b.least);
      endless = a.endless || b.endless;
      most = cond (ltb a.most b.most) b.most a.most;
    }

-- any number of texts one behind the other
abbrev pub weights_many : Weights → Weights
weights_many a =
    record { least = 0; step = divisor a.least a.step; endless = a.endless || not (eqb a.most 0); most = 0 }

-- one of the characters from lo on, so many
abbrev pub weights_range : (ℕ → Bool) → ℕ → ℕ → Weights
weights_range counts lo n =
    record {
      least = one_if (all counts (from lo n));
      step = one_if (any counts (from lo n)) - one_if (all counts (from lo n));
      endless = false;
      most = one_if (any counts (from lo n));
    }

abbrev pub pattern_weights : (ℕ → Bool) → Pattern → Weights
pattern_weights counts (leaf (char c)) = fixed_weight (one_if (counts c))
pattern_weights counts (leaf (range lo hi)) = weights_range counts lo (suc hi - lo)
pattern_weights counts empty = fixed_weight 0
pattern_weights counts (then a b) = weights_then (pattern_weights counts a) (pattern_weights counts b)
pattern_weights counts (either a b) = weights_either (pattern_weights counts a) (pattern_weights counts b)
pattern_weights counts (many a) = weights_many (pattern_weights counts a)

-- "an open field may hold one space, so its least is 0"
abbrev pub held_weights : (ℕ → Bool) → Held → Weights
held_weights counts some_text = record { least = 0; step = 1; endless = true; most = 0 }
held_weights counts (pattern p) = pattern_weights counts p

-- the characters of a side that count, and how often a field stands in it
abbrev pub chr_weight : (ℕ → Bool) → Token → ℕ
chr_weight counts (chr c) = one_if (counts c)
chr_weight counts (fld f) = 0

abbrev pub side_weight : (ℕ → Bool) → Side → ℕ
side_weight counts [] = 0
side_weight counts (t ∷ side) = chr_weight counts t + side_weight counts side

abbrev pub times : ℕ → Side → ℕ
times f [] = 0
times f (t ∷ side) = one_if (is_field f t) + times f side

-- over the fields from number 0 on
abbrev pub sum_of : (ℕ → ℕ) → List ℕ → ℕ
sum_of g [] = 0
sum_of g (f ∷ fs) = g f + sum_of g fs

abbrev pub divisor_of : (ℕ → ℕ) → List ℕ → ℕ
divisor_of g [] = 0
divisor_of g (f ∷ fs) = divisor (g f) (divisor_of g fs)

-- One side after cancelling: how often each field stands in it more often than in the other, and what that weighs at least and at most.
module _ (counts : ℕ → Bool) (held : ℕ → Held) (side other : Side) where
  abbrev pub surplus : ℕ → ℕ
  surplus f = times f side - times f other

  abbrev pub at_least : ℕ
  at_least = side_weight counts side + sum_of (λ (f : ℕ). surplus f * (held_weights counts (held f)).least) (upto fields)

  abbrev pub no_end : Bool
  no_end = any (λ (f : ℕ). ltb 0 (surplus f) && (held_weights counts (held f)).endless) (upto fields)

  abbrev pub at_most : ℕ
  at_most = side_weight counts side + sum_of (λ (f : ℕ). surplus f * (held_weights counts (held f)).most) (upto fields)

  -- it is lighter than so much, whatever its texts are
  abbrev pub always_lighter : ℕ → Bool
  always_lighter least = not no_end && ltb at_most least

-- "no choice of such weights makes both sides equal"
unfoldable pub uneven : (ℕ → Bool) → Question → Bool
uneven counts q =
    let held = held_by q in
    let l = q.left in
    let r = q.right in
    let steps = divisor_of (λ (f : ℕ). between (times f l) (times f r) * (held_weights counts (held f)).step) (upto fields) in
    always_lighter counts held l r (at_least counts held r l)
    || (always_lighter counts held r l (at_least counts held l r)
    || not (eqb (between (at_least counts held l r) (at_least counts held r l) % steps) 0))

-- one character alone, and all but the space
abbrev pub this_one : ℕ → ℕ → Bool
this_one a c = eqb a c

abbrev pub all_but : ℕ → ℕ → Bool
all_but space c = not (eqb space c)

-- the characters that stand in a side
abbrev pub chars_of : Side → List ℕ
chars_of [] = []
chars_of (chr c ∷ side) = c ∷ chars_of side
chars_of (fld f ∷ side) = chars_of side

-- all but the space, and each other character that stands fixed in a side
unfoldable pub letters_differ : Question → Bool
letters_differ q =
    uneven (all_but q.alphabet.space) q
    || any (λ (c : ℕ). uneven (this_one c) q) (keep (all_but q.alphabet.space) (chars_of (q.left ++ q.right)))
