-- `search::search` meets its contract. The loop's invariant: whatever search the buffer and the run stood for where the loop begins,
-- they stand for one that ends as that does, with slot k to be taken next. Follows from the laws of turns.
use Prim.Native.Nat.{◌<◌, zero-le}
use native.Mathlib.Omega.{arith}
use mathlib.Core.Path.{◌≡◌, refl, sym, ◌∙◌}
use mathlib.Core.Bool.{false}
use mathlib.Core.List.{[]}
use Rattle.base_codes.specs.Coded.{Coded, as_struct, Short}
use Rattle.search_run.specs.Lent.{tables_within}
use Rattle.search_run.specs.Run.{is_going, enter_slot, slot_search}
use Rattle.search_buckets.proofs.Kept.{kept_none}
use Rattle.search_run.proofs.search.Turns.{Standing, begun, ended, used_up, taken}
use Rattle.search_run.proofs.search.search.Goals.{At-loop-run}
use Rattle.search_run.proofs.search.search.Goals as goal

-- at the loop's head: the search that began with k
standing : (c : At-loop-run) →
    let a = c.args in
    (k : Coded) → a.first ≡ as_struct k → Short k →
    Standing (tables_within a.tables.now) a.room (enter_slot a.room [] (record { at = k; parent = 0; step = 0 }))
    c.loop-run.work c.loop-run.run c.loop-run.k
standing c k e h =
    let a = c.args in
    c.loop-run.invariant.3 (enter_slot a.room [] (record { at = k; parent = 0; step = 0 }))
    (c.enter_first-run.ensures.lent k [] e h (kept_none a.work.now) refl)

pub loop-run-init : goal.loop-run-init
loop-run-init c =
    let a = c.args in
    (zero-le, c.enter_first-run.ensures.within, refl, λ R l. begun (tables_within a.tables.now) a.room l)

pub returns : goal.returns
unfolding slot_search
returns c =
    let g : is_going c.loop-run.run.status ≡ false = sym c.is_going.ensures ∙ c.loop-run-test.false in
    let a = c.args in
    record { within = c.loop-run.invariant.1; over = g; lent = λ k e h. ended (tables_within a.tables.now) a.room (standing (goal.at.returns c).At-loop-run k e h) g }

pub returns-then-run-k : goal.returns-then-run-k
unfolding slot_search
returns-then-run-k c =
    let a = c.args in
    record {
      within = c.loop-run.invariant.1;
      over = refl;
      lent = λ k e h. used_up (tables_within a.tables.now) a.room (standing (goal.at.returns-then-run-k c).At-loop-run k e h) (sym c.is_going.ensures ∙ c.loop-run-test.true) c.if-run-k.true;
    }

pub take-run-requires : goal.take-run-requires
take-run-requires c =
    let n = c.enter_first-run.auto.work in record {
      roomy = record {
        fits = omega (arith, c.requires.0, c.loop-run.invariant.2, n);
        most = c.requires.1;
        within = c.loop-run.invariant.1;
        numbered = omega (arith, c.requires.1, c.loop-run.invariant.0);
      };
      k_lt_entered = c.if-run-k.false;
    }

pub loop-run-preserved : goal.loop-run-preserved
loop-run-preserved c =
    let a = c.args in
    let i = c.loop-run.k in
    let b : i < a.room = omega (arith, c.loop-run.invariant.1, c.if-run-k.false) in (
      omega arith,
      c.take-run.ensures.within,
      c.take-run.auto.work ∙ c.loop-run.invariant.2,
      λ R l.
          let q = c.loop-run.invariant.3 R l in
          taken (tables_within a.tables.now) a.room q (sym c.is_going.ensures ∙ c.loop-run-test.true) b (c.take-run.ensures.lent q.at q.lent),
    )
