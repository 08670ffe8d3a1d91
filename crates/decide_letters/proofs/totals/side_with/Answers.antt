-- `side_with` meets its contract, by what its parts promise; a product of two small numbers is small.
use Prim.Native.Nat.{ℕ, ◌+◌, ◌*◌, ◌^◌, ◌≤◌, ◌<◌}
use native.Mathlib.Nat.{mul-le-mul}
use native.Mathlib.Omega.{arith}
use mathlib.Core.Bool.{◌&&◌, ◌||◌}
use lib.Dec.{ltb}
use Rattle.paper.specs.Numbers.{longest_side}
use Rattle.decide_letters.specs.PatternStack.{part}
use Rattle.decide_letters.proofs.totals.side_with.Goals as goal

small : (n w : ℕ) → n ≤ longest_side → w < part → n * w < 2 ^ 64
small n w h k = let p = mul-le-mul {n₁ = n} {m₁ = w} h (let l : w ≤ part = omega arith in l) in omega arith

small_sum : (t n w : ℕ) → n ≤ longest_side → w < part → t < 2 ^ 32 → t + n * w < 2 ^ 64
small_sum t n w h k r = let p = mul-le-mul {n₁ = n} {m₁ = w} h (let l : w ≤ part = omega arith in l) in omega arith

pub overflow_mul-result : goal.overflow_mul-result
overflow_mul-result c = record { fits = small c.args.n c.least.result c.requires.0 c.least.ensures.1 }

pub overflow_add-result : goal.overflow_add-result
overflow_add-result c =
    record { fits = small_sum c.args.t.least c.args.n c.least.result c.requires.0 c.least.ensures.1 c.requires.1 }

pub overflow_mul-result-2 : goal.overflow_mul-result-2
overflow_mul-result-2 c =
    record { fits = small c.args.n c.most.result c.requires.0 c.most.ensures.1 }

pub overflow_add-result-2 : goal.overflow_add-result-2
overflow_add-result-2 c =
    record { fits = small_sum c.args.t.most c.args.n c.most.result c.requires.0 c.most.ensures.1 c.requires.2 }

pub returns : goal.returns
returns c =
    let a = c.args in
    λ i.
    record {
      least = a.t.least + a.n * c.least.ensures.0 i;
      most = a.t.most + a.n * c.most.ensures.0 i;
      endless = (ltb 0 a.n && c.endless.ensures i) || a.t.endless;
    }
