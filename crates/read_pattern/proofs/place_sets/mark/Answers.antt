-- `place_sets::mark` meets its contract. The loop adds the set at the characters from lo to hi (`Adding`); to the others nothing is added.
use Prim.Native.Nat.{ℕ, ◌≤◌, ◌<◌, zero-le}
use native.Mathlib.Omega.{arith}
use mathlib.Core.Path.{◌≡◌, sym, ap}
use mathlib.Core.Bool.{Bool, cond}
use lib.Dec.{leb}
use Rattle.paper.specs.Numbers.{most_characters}
use Rattle.paper.proofs.base.Tests.{both_true, left_false, right_false, le_leb, lt_leb}
use Rattle.read_pattern.proofs.Adding.{marked, adding_none, adding_more, adding_to, adding_rest}
use Rattle.read_pattern.proofs.place_sets.mark.Goals as goal

-- what is added below lo, from lo to hi, and above hi
added_below : (lo hi set c : ℕ) → c < lo → marked lo hi set c ≡ 0
added_below lo hi set c h = ap (λ (b : Bool). cond b set 0) (left_false (leb lo c) (leb c hi) (lt_leb lo c h))

added_here : (lo hi set c : ℕ) → lo ≤ c → c ≤ hi → set ≡ marked lo hi set c
added_here lo hi set c h k = sym (ap (λ (b : Bool). cond b set 0) (both_true (le_leb lo c h) (le_leb c hi k)))

added_above : (lo hi set c : ℕ) → hi < c → marked lo hi set c ≡ 0
added_above lo hi set c h = ap (λ (b : Bool). cond b set 0) (right_false (leb lo c) (leb c hi) (lt_leb c hi h))

pub loop-c-init : goal.loop-c-init
loop-c-init c =
    let a = c.args in
    let h = c.requires.0 in
    adding_to most_characters (marked a.lo a.hi a.set) a.taking.now a.taking.now 0 a.lo
    (adding_none most_characters (marked a.lo a.hi a.set) a.taking.now)
    zero-le
    (omega arith)
    (λ (j : ℕ) (_ : 0 ≤ j) (k : j < a.lo). added_below a.lo a.hi a.set j k)

pub loop-c-preserved : goal.loop-c-preserved
loop-c-preserved c =
    let l = c.loop-c in
    let a = c.args in
    let h = c.requires.1 in
    adding_more most_characters (marked a.lo a.hi a.set) a.taking.now l.taking l.c l.invariant (omega arith) a.set
    (added_here a.lo a.hi a.set l.c l.auto.c (omega arith))

pub returns : goal.returns
returns c =
    let l = c.loop-c in
    let a = c.args in
    adding_rest most_characters (marked a.lo a.hi a.set) a.taking.now l.taking l.c l.invariant
    (λ (j : ℕ) (k : l.c ≤ j). added_above a.lo a.hi a.set j (omega (arith, c)))
