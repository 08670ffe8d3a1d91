-- `with_field` meets its contract, by what its parts promise.
use Prim.Native.Nat.{ℕ, ◌*◌, ◌^◌, ◌≤◌, ◌<◌}
use native.Mathlib.Nat.{mul-le-mul}
use native.Mathlib.Omega.{arith}
use mathlib.Core.Path.{ap, ap₂, ◌∙◌}
use Rattle.paper.specs.Numbers.{longest_side}
use Rattle.paper_decide.specs.Letters.{divisor}
use Rattle.decide_letters.specs.PatternStack.{part, unpacked}
use Rattle.decide_letters.specs.LettersCoded.{side_with}
use Rattle.decide_letters.proofs.totals.with_field.Goals as goal

small : (n w : ℕ) → n ≤ 2 * longest_side → w < part → n * w < 2 ^ 64
small n w h k = let p = mul-le-mul {n₁ = n} {m₁ = w} h (let l : w ≤ part = omega arith in l) in omega arith

pub side_with-left-requires : goal.side_with-left-requires
side_with-left-requires c =
    (omega (arith, c.surplus.ensures, c.requires.0), c.requires.2.left_least, c.requires.2.left_most)

pub side_with-right-requires : goal.side_with-right-requires
side_with-right-requires c =
    (omega (arith, c.surplus-2.ensures, c.requires.1), c.requires.2.right_least, c.requires.2.right_most)

pub overflow_mul-between : goal.overflow_mul-between
overflow_mul-between c =
    record { fits = small c.between.result c.step.result (omega (arith, c.between.ensures, c.requires.0, c.requires.1)) c.step.ensures.1 }

pub returns : goal.returns
returns c =
    let a = c.args in
    let w = unpacked a.w in
    λ i.
    record {
      left = (c.side_with-left.ensures ∙ ap (λ (n : ℕ). side_with n w a.t.left) c.surplus.ensures) i;
      right = (c.side_with-right.ensures ∙ ap (λ (n : ℕ). side_with n w a.t.right) c.surplus-2.ensures) i;
      steps = (c.divisor-steps.ensures ∙ ap₂ (λ (n d : ℕ). divisor (n * d) a.t.steps) c.between.ensures c.step.ensures.0) i;
    }
