-- `search::may_be_put` meets its contract. Follows from the laws of what a character in front takes.
use native.Mathlib.Omega.{arith}
use mathlib.Core.Path.{◌≡◌}
use Prim.Native.Nat.{ℕ, ◌+◌, ◌≤◌, ◌<◌}
use Rattle.search_run.proofs.search.Puts.{left_not, right_not}
use Rattle.search_run.proofs.search.may_be_put.Goals as goal

pub returns-then-a-characters : goal.returns-then-a-characters
returns-then-a-characters c =
    let a = c.args.a in
    let b = c.args.b in record {
      starts = (omega arith, λ (x : ℕ) (h : x < a). left_not a b x (omega arith) (λ (e : a ≡ x). omega arith));
      ends = (omega arith, λ (x : ℕ) (h : a + 1 ≤ x) (g : x < c.args.characters). left_not a b x (omega arith) (λ (e : a ≡ x). omega arith));
    }

pub returns-then-b-characters : goal.returns-then-b-characters
returns-then-b-characters c =
    let a = c.args.a in
    let b = c.args.b in record {
      starts = (omega arith, λ (x : ℕ) (h : x < b). right_not a b x (omega arith) (λ (e : b ≡ x). omega arith));
      ends = (omega arith, λ (x : ℕ) (h : b + 1 ≤ x) (g : x < c.args.characters). right_not a b x (omega arith) (λ (e : b ≡ x). omega arith));
    }

pub returns : goal.returns
returns c =
    let n = c.args.characters in record {
      starts = (omega arith, λ (x : ℕ) (h : x < 0). absurd (omega arith));
      ends = (omega arith, λ (x : ℕ) (h : n ≤ x) (g : x < n). absurd (omega arith));
    }
