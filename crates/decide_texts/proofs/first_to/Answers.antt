-- `first_to` meets its contract. The loop's invariant: the first one is the first of those from c on.
use Prim.Native.Nat.{ℕ, suc, ◌-◌}
use native.Mathlib.Omega.{arith}
use mathlib.Core.Path.{◌≡◌, sym, ap, ◌∙◌}
use lib.ListN.{get_or}
use Rattle.paper.specs.Lists.{from, keep}
use Rattle.decide_texts.specs.TextsCoded.{leads, first_to}
use Rattle.decide_texts.proofs.TextTurns.{first_here, first_behind}
use Rattle.decide_texts.proofs.first_to.Goals as goal

pub loop-c-init : goal.loop-c-init
unfolding first_to
loop-c-init c =
    let a = c.args in
    let t = leads a.taking.now a.next a.ends in
    λ m e. let all : a.n ≡ m = omega arith in ap (λ (n : ℕ). get_or (keep t (from 0 n)) 0 0) all

pub returns-then-meets : goal.returns-then-meets
returns-then-meets c =
    let a = c.args in
    let t = leads a.taking.now a.next a.ends in (
      omega (arith, c.requires),
      sym (c.loop-c.invariant (a.n - c.loop-c.c) (omega arith) ∙ first_here t c.loop-c.c (a.n - c.loop-c.c) (omega arith) (sym c.meets.ensures ∙ c.if-meets.true)),
    )

pub loop-c-preserved : goal.loop-c-preserved
loop-c-preserved c =
    let a = c.args in
    let t = leads a.taking.now a.next a.ends in
    λ m e. c.loop-c.invariant (suc m) (omega arith) ∙ first_behind t c.loop-c.c m (sym c.meets.ensures ∙ c.if-meets.false)

pub returns : goal.returns
returns c = let l = c.loop-c in (omega arith, sym (l.invariant 0 (omega arith)))
