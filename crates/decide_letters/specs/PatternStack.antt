-- The weights of a pattern from its codes, operator first: from the last code to the first, what is made and not yet used on a stack. And weights as
-- one number, as the stack of the code has them.
use Rattle.std.specs.Prelude.{ℕ, suc, ◌+◌, ◌-◌, ◌*◌, ◌/◌, ◌%◌, Bool, false, cond, List, [], ◌∷◌, eqb, get_or, drop}
use Rattle.paper.specs.Numbers.{empty_code, range_code, then_code, or_code, many_code}
use Rattle.paper.specs.Pattern.{some_text}
use Rattle.paper_decide.specs.Letters.{one_if, Weights, fixed_weight, weights_then, weights_either, weights_many, weights_range, held_weights, this_one, all_but}
use Rattle.decide_letters.specs.declared.weights.Counting.{Counting}
use Rattle.decide_letters.specs.declared.weights.Counting.TheVariants.{One, AllBut}

-- the test of characters
abbrev pub counted : Counting → ℕ → Bool
counted (One c) = this_one c
counted (AllBut space) = all_but space

-- the weights of the empty text: what stands in for what is missing
abbrev pub weightless : Weights
weightless = fixed_weight 0

-- what an open field may hold, whatever counts
abbrev pub open_weights : Weights
open_weights = held_weights (λ (_ : ℕ). false) some_text

-- one character of which all count, or some, or none
abbrev pub spread : Bool → Bool → Weights
spread all some = record { least = one_if all; step = one_if some - one_if all; endless = false; most = one_if some }

-- how many of the stack a code uses: a range's two ends were put on it as characters
abbrev pub uses : ℕ → ℕ
uses b = cond (eqb b then_code) 2 (cond (eqb b or_code) 2 (cond (eqb b range_code) 2 (cond (eqb b many_code) 1 0)))

-- what a code makes of the two on top, where lo and hi are the codes behind it
abbrev pub made : (ℕ → Bool) → ℕ → ℕ → ℕ → Weights → Weights → Weights
made counts b lo hi v w =
    cond (eqb b then_code) (weights_then v w)
    (cond (eqb b or_code) (weights_either v w)
    (cond (eqb b many_code) (weights_many v)
    (cond (eqb b range_code) (weights_range counts lo (suc hi - lo))
    (cond (eqb b empty_code) weightless (fixed_weight (one_if (counts b)))))))

abbrev pub stack_of : (ℕ → Bool) → List ℕ → List Weights
stack_of counts [] = []
stack_of counts (b ∷ codes) =
    made counts b (get_or codes 0 0) (get_or codes 1 0) (get_or (stack_of counts codes) 0 weightless) (get_or (stack_of counts codes) 1 weightless)
    ∷ drop (uses b) (stack_of counts codes)

-- Weights in one number: three of 16 binary digits, and one digit for those without end.
abbrev pub part : ℕ
part = 65536

unfoldable pub packed : Weights → ℕ
packed w = w.least % part + part * (w.step % part + part * (w.most % part + part * one_if w.endless))

unfoldable pub unpacked : ℕ → Weights
unpacked n =
    record {
      least = n % part;
      step = n / part % part;
      endless = eqb (n / (part * part * part) % 2) 1;
      most = n / (part * part) % part;
    }
