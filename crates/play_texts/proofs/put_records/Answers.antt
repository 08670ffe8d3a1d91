-- `put_records` meets its contract. The loop's invariant: the records of the standing fields below f were put.
use native.Mathlib.Omega.{arith}
use mathlib.Core.Path.{◌≡◌, refl, subst, ◌∙◌}
use Rattle.paper.specs.Numbers.{fields}
use Rattle.base_codes.specs.Coded.{denoted}
use Rattle.base_put.specs.Counted.{Counted}
use Rattle.base_put.proofs.Counting.{counted_none, counted_then}
use Rattle.search_children.specs.Laid.{tables_lent}
use Rattle.play_texts.proofs.Putting.{along_none, stands_more, gone_more, all_fields}
use Rattle.play_texts.proofs.put_records.Goals.{then-set-ne0, else-set-ne0}
use Rattle.play_texts.proofs.put_records.Goals as goal

pub loop-f-init : goal.loop-f-init
loop-f-init c =
    let a = c.args in
    (refl, rw (along_none (tables_lent a.tables.now) (denoted a.first) a.steps.now) counted_none)

pub loop-f-preserved : goal.loop-f-preserved
loop-f-preserved c =
    let a = c.args in
    let T = tables_lent a.tables.now in
    let f = c.loop-f.f in
    elim c.if-set-ne0.branch [
      | then-set-ne0 w ↦
          rw (w.out-is, w.end-is) (
            w.put_record-end.auto.out ∙ c.loop-f.invariant.0,
            rw (stands_more T (denoted a.first) a.steps.now f w.if-set-ne0.true) (counted_then c.loop-f.invariant.1 w.put_record-end.ensures),
          )
      | else-set-ne0 w ↦
          rw (w.out-is, w.end-is)
          (c.loop-f.invariant.0, rw (gone_more T (denoted a.first) a.steps.now f w.if-set-ne0.false) c.loop-f.invariant.1)
    ]

pub returns : goal.returns
returns c =
    let a = c.args in
    let all : c.loop-f.f ≡ fields = omega (arith, c) in
    subst (Counted a.out.now c.loop-f.out 0 c.loop-f.end) (all_fields (tables_lent a.tables.now) (denoted a.first) a.steps.now c.loop-f.f all) c.loop-f.invariant.1
