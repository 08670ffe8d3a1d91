-- `check_strays` meets its contract. The loop's invariant: no field before f is stray (`Checking`).
use Prim.Native.Nat.{◌≤◌, ◌<◌}
use native.Mathlib.Omega.{arith}
use mathlib.Core.Path.{sym}
use lib.ListN.{get_or}
use Rattle.paper.specs.Numbers.{fields, pattern_bytes}
use Rattle.paper_write.specs.Laying.{both_sides}
use Rattle.base_editions.specs.Editions.{paper_edition}
use Rattle.write_sheet.proofs.StraysChecked.{stands_so, checking_start, checking_ends, checking_skips, checking_stops, checking_on}
use Rattle.write_sheet.proofs.check_strays.Goals.{Then-n-gt0, then-n-gt0+else-not-field_stands, else-n-gt0}
use Rattle.write_sheet.proofs.check_strays.Goals as goal

pub loop-f-init : goal.loop-f-init
loop-f-init c = checking_start _ _ _

-- a field that has a pattern
its : (c : Then-n-gt0) → (c.loop-f.f < fields) × (get_or c.args.lengths.now c.loop-f.f 0 ≤ pattern_bytes)
its c = c.requires.1 c.loop-f.f c.if-n-gt0.true

pub returns-then-not-field_stands : goal.returns-then-not-field_stands
returns-then-not-field_stands c =
    let a = c.args in
    let sides = both_sides (paper_edition a.edition) a.left.now a.right.now in
    let known = (its (goal.at.returns-then-not-field_stands c).Then-n-gt0).0 in
    λ done. sym (checking_stops _ _ _ c.loop-f.invariant c.loop-f-test.true c.if-n-gt0.true
    (stands_so sides c.loop-f.f known c.field_stands.ensures c.if-not-field_stands.true) done)

pub overflow_add-at : goal.overflow_add-at
overflow_add-at c = record { fits = omega (arith, (its (goal.at.overflow_add-at c).Then-n-gt0).1) }

pub overflow_add-at-then-n-gt0 : goal.overflow_add-at-then-n-gt0
overflow_add-at-then-n-gt0 c =
    let (known, short) = its (goal.at.overflow_add-at-then-n-gt0 c).Then-n-gt0 in
    record { fits = omega (arith, c.loop-f.invariant.low, c.requires.0) }

pub loop-f-preserved : goal.loop-f-preserved
loop-f-preserved c =
    let sides = both_sides (paper_edition c.args.edition) c.args.left.now c.args.right.now in
    elim c.if-n-gt0.branch [
      | then-n-gt0+else-not-field_stands w ↦
          let (known, short) = c.requires.1 c.loop-f.f w.if-n-gt0.true in
          rw w.at-is
          (checking_on _ _ _ c.loop-f.invariant c.loop-f-test.true w.if-n-gt0.true short
          (stands_so sides c.loop-f.f known w.field_stands.ensures w.if-not-field_stands.false))
      | else-n-gt0 w ↦ rw w.at-is (checking_skips _ _ _ c.loop-f.invariant c.loop-f-test.true (omega (arith, w.if-n-gt0.false)))
    ]

pub returns : goal.returns
returns c = λ done. sym (checking_ends _ _ _ c.loop-f.invariant c.loop-f-test.false done)
