-- `endings` meets its contract. The loop's invariant: the numbers below k are there, `here` is the next one, and what is sought is the first that is asked
-- for of those from k on, or `length`.
use Prim.Native.Nat.{ℕ, suc, ◌-◌}
use native.Mathlib.Omega.{arith}
use mathlib.Core.Path.{◌≡◌, refl, sym, ap, ◌∙◌}
use lib.Bits.{bit_and}
use lib.ListN.{length-set}
use Rattle.std.proofs.Common.{Option, Some, None}
use Rattle.paper.specs.Lists.{from, keep}
use Rattle.paper_decide.specs.OneText.{one_from, lengths_tried}
use Rattle.decide_texts.specs.TextsCoded.{meets, start, leading_to, ending, length_coded}
use Rattle.decide_texts.proofs.TextTurns.{ending_more, ends_more, one_here, one_behind, one_not}
use Rattle.decide_texts.proofs.endings.Invariants.{can, length_of}
use Rattle.decide_texts.proofs.endings.Goals.{then-meets+else-asked-k, else-meets}
use Rattle.decide_texts.proofs.endings.Goals as goal

none≢some : {j : ℕ} → ◌≡◌ {A = Option ℕ} None (Some j) → ⊥
none≢some e = cc

some-same : {j k : ℕ} → ◌≡◌ {A = Option ℕ} (Some j) (Some k) → j ≡ k
some-same e = cc

pub loop-k-init : goal.loop-k-init
unfolding ending length_coded
loop-k-init c =
    let a = c.args in
    let its = ending a.follow.now a.taken a.last in
    record {
      at = omega arith;
      long = refl;
      within = λ j e. absurd (none≢some e);
      there = λ j l. absurd (omega arith);
      next = refl;
      sought = λ m e. let all : lengths_tried ≡ m = omega arith in ap (λ (n : ℕ). one_from lengths_tried (keep (can its) (from 0 n)) a.asked) all;
    }

pub returns-then-asked-k : goal.returns-then-asked-k
returns-then-asked-k c =
    let a = c.args in
    let its = ending a.follow.now a.taken a.last in
    let x = c.loop-k.invariant in
    let k = c.loop-k.k in
    let m = lengths_tried - k in
    let test = c.loop-k-test.true in
    let ends-here = ap (meets start) (sym x.next) ∙ sym c.meets.ensures ∙ c.if-meets.true in (
      record {
        its_length =
            sym
            (x.sought m (omega (arith, test)) ∙ one_here (can its) k (length_of c.loop-k.length) a.asked m (omega (arith, test)) ends-here c.if-asked-k.true);
        shorter = x.there;
      },
      test,
    )

pub loop-k-preserved : goal.loop-k-preserved
loop-k-preserved c =
    let a = c.args in
    let its = ending a.follow.now a.taken a.last in
    let x = c.loop-k.invariant in
    let k = c.loop-k.k in
    let test = c.loop-k-test.true in
    let here = ap (meets start) (sym x.next) ∙ sym c.meets.ensures in
    record {
      at = omega (arith, test);
      long = length-set c.loop-k.ends k c.loop-k.here ∙ x.long;
      within =
          λ j e.
          elim c.if-meets.branch [
            | then-meets+else-asked-k w ↦ let same : k ≡ j = some-same (sym w.length-is ∙ e) in omega arith
            | else-meets w ↦ let l = x.within j (sym w.length-is ∙ e) in omega arith
          ];
      there = ends_more its c.loop-k.ends k c.loop-k.here (omega (arith, test, x.long)) x.next x.there;
      next =
          c.leading_to-here.ensures
          ∙ ap (λ (y : ℕ). leading_to a.follow.now (bit_and a.taken y)) x.next
          ∙ ending_more a.follow.now a.taken a.last k;
      sought =
          λ m e.
          x.sought (suc m) (omega arith)
          ∙ elim c.if-meets.branch [
            | then-meets+else-asked-k w ↦
                one_behind (can its) k (length_of c.loop-k.length) a.asked m (here ∙ w.if-meets.true) w.if-asked-k.false ∙ rw w.length-is
            | else-meets w ↦ one_not (can its) k (length_of c.loop-k.length) a.asked m (here ∙ w.if-meets.false) ∙ rw w.length-is
          ];
    }

pub returns-in_err-length : goal.returns-in_err-length
returns-in_err-length c =
    let none = c.loop-k.invariant.sought 0 (omega arith) ∙ ap length_of c.in_err-length.was in
    rw c.from_residual.ensures (omega (arith, none))

pub returns : goal.returns
returns c =
    let x = c.loop-k.invariant in
    let is = c.in_ok-length.was in
    let tried = x.within _ is in (
      record {
        its_length = sym (x.sought 0 (omega arith) ∙ ap length_of is);
        shorter = λ j l. x.there j (omega arith);
      },
      omega arith,
    )
