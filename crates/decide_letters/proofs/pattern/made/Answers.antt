-- `made` meets its contract, test by test.
use native.Mathlib.Omega.{arith}
use Prim.Native.Nat.{ℕ, ◌+◌}
use mathlib.Core.Path.{◌≡◌, sym, ap, ap₂, ◌∙◌}
use mathlib.Core.Bool.{Bool}
use lib.ListN.{get_or}
use Rattle.paper.specs.Numbers.{empty_code, range_code, then_code, or_code, many_code}
use Rattle.paper_decide.specs.Letters.{one_if, fixed_weight, weights_then, weights_either, weights_many}
use Rattle.decide_letters.specs.PatternStack.{counted, packed, unpacked}
use Rattle.decide_letters.proofs.PatternRead.{made_other}
use Rattle.decide_letters.proofs.pattern.made.Goals as goal

pub returns-then-c-lt-EMPTY_CODE : goal.returns-then-c-lt-EMPTY_CODE
returns-then-c-lt-EMPTY_CODE c =
    let a = c.args in
    c.fixed.ensures ∙ ap (λ (b : Bool). packed (fixed_weight (one_if b))) c.counts.ensures
    ∙ ap packed
    (sym
    (made_other (counted a.counting) a.c a.lo a.hi (unpacked (get_or a.stack.now a.top 0)) (unpacked (get_or a.stack.now (a.top + 1) 0))
    (λ (e : a.c ≡ then_code). omega (arith, c.if-c-lt-EMPTY_CODE.true))
    (λ (e : a.c ≡ or_code). omega (arith, c.if-c-lt-EMPTY_CODE.true))
    (λ (e : a.c ≡ many_code). omega (arith, c.if-c-lt-EMPTY_CODE.true))
    (λ (e : a.c ≡ range_code). omega (arith, c.if-c-lt-EMPTY_CODE.true))
    (λ (e : a.c ≡ empty_code). omega (arith, c.if-c-lt-EMPTY_CODE.true))))

pub returns-then-c-eq-RANGE_CODE : goal.returns-then-c-eq-RANGE_CODE
returns-then-c-eq-RANGE_CODE c = rw c.if-c-eq-RANGE_CODE.true c.range.ensures

pub returns-then-c-eq-THEN_CODE : goal.returns-then-c-eq-THEN_CODE
returns-then-c-eq-THEN_CODE c =
    rw c.if-c-eq-THEN_CODE.true
    (c.behind.ensures ∙ ap₂ (λ (x y : ℕ). packed (weights_then (unpacked x) (unpacked y))) c.at.ensures c.at-then-c-eq-THEN_CODE.ensures)

pub returns-then-c-eq-OR_CODE : goal.returns-then-c-eq-OR_CODE
returns-then-c-eq-OR_CODE c =
    rw c.if-c-eq-OR_CODE.true
    (c.either.ensures ∙ ap₂ (λ (x y : ℕ). packed (weights_either (unpacked x) (unpacked y))) c.at-then-c-eq-OR_CODE.ensures c.at-then-c-eq-OR_CODE-2.ensures)

pub returns-then-c-eq-MANY_CODE : goal.returns-then-c-eq-MANY_CODE
returns-then-c-eq-MANY_CODE c =
    rw c.if-c-eq-MANY_CODE.true (c.many.ensures ∙ ap (λ (x : ℕ). packed (weights_many (unpacked x))) c.at-then-c-eq-MANY_CODE.ensures)

pub returns-then-c-eq-EMPTY_CODE : goal.returns-then-c-eq-EMPTY_CODE
returns-then-c-eq-EMPTY_CODE c = rw c.if-c-eq-EMPTY_CODE.true c.fixed-then-c-eq-EMPTY_CODE.ensures

pub returns : goal.returns
returns c =
    let a = c.args in
    c.fixed-2.ensures ∙ ap (λ (b : Bool). packed (fixed_weight (one_if b))) c.counts-2.ensures
    ∙ ap packed
    (sym
    (made_other (counted a.counting) a.c a.lo a.hi (unpacked (get_or a.stack.now a.top 0)) (unpacked (get_or a.stack.now (a.top + 1) 0)) c.if-c-eq-THEN_CODE.false c.if-c-eq-OR_CODE.false c.if-c-eq-MANY_CODE.false c.if-c-eq-RANGE_CODE.false c.if-c-eq-EMPTY_CODE.false))
