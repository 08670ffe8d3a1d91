-- Letters by inner codes, for all sides, bodies and bytes. Of what a question asks, its sides coded and its patterns where the bodies say, they are
-- `letters_differ` (`LettersTold` of the proofs).
use Rattle.std.specs.Prelude.{ℕ, ◌+◌, ◌-◌, ◌*◌, ◌%◌, ◌^◌, ◌≤◌, ◌<◌, ◌≡◌, Bool, cond, not, ◌&&◌, ◌||◌, List, ◌++◌, ltb, eqb, get_or, take, drop}
use Rattle.paper.specs.Lists.{upto, any}
use Rattle.paper.specs.Numbers.{fields, rule_fields, pattern_bytes}
use Rattle.paper.specs.Alphabet.{Edition, codes}
use Rattle.paper.specs.Pattern.{some_text}
use Rattle.paper_decide.specs.Letters.{divisor, between, Weights, held_weights, sum_of, divisor_of, this_one, all_but}
use Rattle.base_codes.specs.Inner.{is_char, tokens}
use Rattle.base_question.specs.Bodies.{nowhere}
use Rattle.base_question.specs.declared.Body.{Body}
use Rattle.decide_letters.specs.PatternStack.{weightless, stack_of}
use Rattle.decide_letters.specs.declared.totals.Total.{Total}
use Rattle.decide_letters.specs.declared.totals.Totals.{Totals}
use Rattle.decide_letters.specs.SideCoded.{times_coded, weight_coded}

-- r is the lesser of n and a limit
pub record Least (n limit r : ℕ) : Type 0 where
  pub below : r ≤ n
  pub within : r ≤ limit
  pub one_of : r + (n - limit) ≡ n

-- The weights of what a field may hold: where its body has a length they are those of the bytes there, no more than a pattern may have.
abbrev pub bytes_at : Body → List ℕ → List ℕ
bytes_at b s = take pattern_bytes (take b.length (drop b.start s))

unfoldable pub body_weights : (ℕ → Bool) → Edition → List ℕ → Body → Weights
body_weights counts e s b =
    cond (eqb b.length 0) (held_weights counts some_text) (get_or (stack_of counts (codes e (bytes_at b s))) 0 weightless)

-- the fields 0 to 3 have their patterns in the first bytes, the others in the second
unfoldable pub field_weights : (ℕ → Bool) → Edition → List Body → List ℕ → List ℕ → ℕ → Weights
field_weights counts e bodies first second f = body_weights counts e (cond (ltb f rule_fields) first second) (get_or bodies f nowhere)

-- One side after cancelling, over these fields: how often each stands in it and in the other, what of it is fixed, and what a field may weigh.
module _ (mine others : ℕ → ℕ) (fixed : ℕ) (weights : ℕ → Weights) where
  abbrev pub total_over : List ℕ → Total
  total_over fs =
      record {
        least = fixed + sum_of (λ (f : ℕ). (mine f - others f) * (weights f).least) fs;
        most = fixed + sum_of (λ (f : ℕ). (mine f - others f) * (weights f).most) fs;
        endless = any (λ (f : ℕ). ltb 0 (mine f - others f) && (weights f).endless) fs;
      }

-- both sides, and the common divisor of what the fields go by
module _ (lefts rights : ℕ → ℕ) (left-fixed right-fixed : ℕ) (weights : ℕ → Weights) where
  abbrev pub totals_over : List ℕ → Totals
  totals_over fs =
      record {
        left = total_over lefts rights left-fixed weights fs;
        right = total_over rights lefts right-fixed weights fs;
        steps = divisor_of (λ (f : ℕ). between (lefts f) (rights f) * (weights f).step) fs;
      }

-- with one field more, which stands so often in the left side and so often in the right
abbrev pub side_with : ℕ → Weights → Total → Total
side_with n w t =
    record {
      least = t.least + n * w.least;
      most = t.most + n * w.most;
      endless = (ltb 0 n && w.endless) || t.endless;
    }

abbrev pub with_field : ℕ → ℕ → Weights → Totals → Totals
with_field l r w t =
    record {
      left = side_with (l - r) w t.left;
      right = side_with (r - l) w t.right;
      steps = divisor (between l r * w.step) t.steps;
    }

-- there is room for it
pub record HasRoom (t : Totals) : Type 0 where
  pub left_least : t.left.least < 2 ^ 32
  pub left_most : t.left.most < 2 ^ 32
  pub right_least : t.right.least < 2 ^ 32
  pub right_most : t.right.most < 2 ^ 32

-- "no choice of such weights makes both sides equal"
abbrev pub lighter : Total → ℕ → Bool
lighter t least = not t.endless && ltb t.most least

abbrev pub uneven_totals : Totals → Bool
uneven_totals t =
    lighter t.left t.right.least
    || (lighter t.right t.left.least
    || not (eqb (between t.left.least t.right.least % t.steps) 0))

unfoldable pub uneven_coded : Edition → List ℕ → List ℕ → List Body → List ℕ → List ℕ → (ℕ → Bool) → Bool
uneven_coded e left right bodies first second counts =
    uneven_totals
    (totals_over (λ (f : ℕ). times_coded f left) (λ (f : ℕ). times_coded f right) (weight_coded counts left) (weight_coded counts right)
    (field_weights counts e bodies first second) (upto fields))

-- one character alone, which stands fixed in a side and is not the space
abbrev pub uneven_by_one : ((ℕ → Bool) → Bool) → ℕ → ℕ → Bool
uneven_by_one uneven space b = is_char b && (all_but space b && uneven (this_one b))

unfoldable pub letters_coded : Edition → List ℕ → List ℕ → ℕ → List Body → List ℕ → List ℕ → Bool
letters_coded e left right space bodies first second =
    let uneven = uneven_coded e (tokens left) (tokens right) bodies first second in
    uneven (all_but space) || any (uneven_by_one uneven space) (tokens left ++ tokens right)
