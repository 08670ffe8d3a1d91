-- `put_patterns` meets its contract. The loop's invariant: the fields before f are put (`Going`).
use Prim.Native.Nat.{ℕ}
use native.Mathlib.Omega.{arith}
use mathlib.Core.Path.{refl, sym, ◌∙◌, subst}
use mathlib.Core.List.{List}
use lib.ListN.{get_or, drop}
use borrow.Author.Rules.{part_to_end}
use Rattle.std.proofs.lemmas.Result.{err_from_is_err_and}
use Rattle.base_editions.specs.Editions.{paper_edition}
use Rattle.write_records.specs.RecordPut.{field_laid, Lays}
use Rattle.write_sheet.proofs.FieldsPut.{going_start, going_ends, fits, going_stops, stops_low, going_on}
use Rattle.write_sheet.proofs.put_patterns.Goals.{After-field}
use Rattle.write_sheet.proofs.put_patterns.Goals as goal

pub loop-f-init : goal.loop-f-init
loop-f-init c = (refl, going_start _ _ _ _ _)

pub slice_bounds-field-count : goal.slice_bounds-field-count
slice_bounds-field-count c = c.loop-f.invariant.1.within

-- the field's record was laid out
its : (c : After-field) →
    let a = c.args in
    Lays c.loop-f.out c.field.new.out c.loop-f.at c.field.result
    (field_laid (paper_edition a.edition) c.loop-f.f (get_or a.lengths.now c.loop-f.f 0) (drop c.loop-f.from a.patterns.now))
its c =
    let a = c.args in
    subst
    (λ (p : List ℕ).
    Lays c.loop-f.out c.field.new.out c.loop-f.at c.field.result (field_laid (paper_edition a.edition) c.loop-f.f (get_or a.lengths.now c.loop-f.f 0) p))
    (part_to_end a.patterns.now c.loop-f.from) c.field.ensures

pub moved-requires : goal.moved-requires
moved-requires c =
    let low = fits c.loop-f.invariant.1 c.requires c.loop-f-test.true _ refl _ (its (goal.at.moved-requires c).After-field) in
    omega arith

pub returns-in_err-at : goal.returns-in_err-at
returns-in_err-at c =
    let l = its (goal.at.returns-in_err-at c).After-field in
    let p = err_from_is_err_and c.from_residual.result c.from_residual.ensures.1 in
    let e = sym c.moved.ensures ∙ c.in_err-at.was in
    record {
      laid = rw (p.1, p.2) (going_stops c.loop-f.invariant.1 c.requires c.loop-f-test.true _ refl _ l _ e);
      low = rw (p.1, p.2) (stops_low c.loop-f.invariant.1 c.requires c.loop-f-test.true _ refl _ l _ e);
    }

pub overflow_add-from : goal.overflow_add-from
overflow_add-from c =
    let g = going_on c.loop-f.invariant.1 c.requires c.loop-f-test.true _ refl _ (its (goal.at.overflow_add-from c).After-field) (sym c.moved.ensures ∙ c.in_ok-at.was) in
    record { fits = omega (arith, g.within) }

pub loop-f-preserved : goal.loop-f-preserved
loop-f-preserved c = (
  c.field.auto.out ∙ c.loop-f.invariant.0,
  going_on c.loop-f.invariant.1 c.requires c.loop-f-test.true _ refl _ (its (goal.at.loop-f-preserved c).After-field) (sym c.moved.ensures ∙ c.in_ok-at.was),
)

pub returns : goal.returns
returns c =
    record {
      laid = going_ends c.loop-f.invariant.1 c.requires c.loop-f-test.false;
      low = omega (arith, c.loop-f.invariant.1.most, c.requires);
    }
