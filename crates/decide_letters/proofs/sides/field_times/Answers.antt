-- `field_times` meets its contract. The loop's invariant: the fields of the tokens before this one are counted (`Timing`).
use Prim.Native.Nat.{ℕ, ◌+◌, ◌≤◌, ◌<◌}
use native.Mathlib.Omega.{arith}
use mathlib.Core.Path.{◌≡◌, refl, sym, ap, subst, ◌∙◌}
use mathlib.Core.List.{List}
use lib.ListN.{length}
use borrow.Author.Rules.{rules}
use Rattle.paper.specs.Numbers.{fields, longest_side}
use Rattle.base_codes.specs.Inner.{field_code}
use Rattle.base_codes.proofs.Tokens.{tokens_length}
use Rattle.decide_letters.specs.SideCoded.{times_listed}
use Rattle.decide_letters.proofs.InSides.{Timing, timing_none, timing_other, timing_field, timing_small, timing_all}
use Rattle.decide_letters.proofs.sides.field_times.Goals.{then-b-ge-FIELD_CODE+then-f-lt-SHEET_FIELDS, then-b-ge-FIELD_CODE+else-f-lt-SHEET_FIELDS, else-b-ge-FIELD_CODE}
use Rattle.decide_letters.proofs.sides.field_times.Goals as goal

pub loop-b-init : goal.loop-b-init
loop-b-init c = timing_none c.tokens_of-b-items.result.now

pub overflow_add-times : goal.overflow_add-times
overflow_add-times c =
    let side = c.args.side in
    let long : length side ≡ longest_side = search rules in
    let few : length c.tokens_of-b-items.result.now ≤ longest_side = omega (arith, ap length c.tokens_of-b-items.ensures, tokens_length side) in
    let n = timing_small _ c.loop-b.times c.loop-b.b-index c.loop-b.invariant few c.field_of-f.result c.if-f-lt-SHEET_FIELDS.true in
    record { fits = omega arith }

pub loop-b-preserved : goal.loop-b-preserved
loop-b-preserved c =
    let xs = c.tokens_of-b-items.result.now in
    let l = c.loop-b in
    elim c.if-b-ge-FIELD_CODE.branch [
      | then-b-ge-FIELD_CODE+then-f-lt-SHEET_FIELDS w ↦
          subst (λ (t : List ℕ). Timing xs t (l.b-index + 1)) (sym w.times-is)
          (timing_field xs l.times l.b-index l.invariant c.loop-b-test.true w.field_of-f.result _ w.if-f-lt-SHEET_FIELDS.true
          (omega (arith, w.field_of-f.ensures, w.if-b-ge-FIELD_CODE.true)) refl)
      | then-b-ge-FIELD_CODE+else-f-lt-SHEET_FIELDS w ↦
          subst (λ (t : List ℕ). Timing xs t (l.b-index + 1)) (sym w.times-is)
          (timing_other xs l.times l.b-index l.invariant c.loop-b-test.true
          (λ (f : ℕ) (h : f < fields) (e : field_code + f ≡ _). omega (arith, w.field_of-f.ensures, w.if-f-lt-SHEET_FIELDS.false)))
      | else-b-ge-FIELD_CODE w ↦
          subst (λ (t : List ℕ). Timing xs t (l.b-index + 1)) (sym w.times-is)
          (timing_other xs l.times l.b-index l.invariant c.loop-b-test.true
          (λ (f : ℕ) (h : f < fields) (e : field_code + f ≡ _). omega (arith, w.if-b-ge-FIELD_CODE.false)))
    ]

pub returns : goal.returns
returns c =
    let xs = c.tokens_of-b-items.result.now in
    timing_all xs c.loop-b.times c.loop-b.b-index c.loop-b.invariant c.loop-b-test.false ∙ ap times_listed c.tokens_of-b-items.ensures
