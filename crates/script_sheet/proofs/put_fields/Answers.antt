-- `put_fields` meets its contract. The loop's invariant: the lines of the standing fields below f were put.
use native.Mathlib.Omega.{arith}
use mathlib.Core.Path.{◌≡◌, refl, ap, ◌∙◌}
use mathlib.Core.List.{List}
use Rattle.paper.specs.Numbers.{set_fields}
use Rattle.base_question.specs.declared.Body.{Body}
use Rattle.base_editions.specs.Editions.{paper_edition}
use Rattle.base_put.proofs.Counting.{counted_none, counted_then}
use Rattle.base_question.specs.Standings.{is_counted}
use Rattle.script_sheet.specs.WrittenOut.{body_of}
use Rattle.script_sheet.proofs.Holding.{body_within}
use Rattle.script_sheet.proofs.FieldListing.{one_more_field}
use Rattle.script_sheet.proofs.put_fields.Goals as goal

pub loop-f-init : goal.loop-f-init
loop-f-init c = (refl, λ q e b. counted_none)

pub put_field-end-requires : goal.put_field-end-requires
put_field-end-requires c =
    (omega arith, body_within c.args.sheet.now c.args.bodies c.requires c.loop-f.f c.body_of-body.result c.body_of-body.ensures)

pub loop-f-preserved : goal.loop-f-preserved
loop-f-preserved c =
    let f = c.loop-f.f in
    let counts = c.args.counts in (
      c.put_field-end.auto.out ∙ c.loop-f.invariant.0,
      λ q e b.
          rw (one_more_field (paper_edition c.args.edition) q (is_counted counts) f)
          (counted_then (c.loop-f.invariant.1 q e b) (c.put_field-end.ensures q e (c.body_of-body.ensures ∙ ap (λ (x : List Body). body_of x f) b))),
    )

pub returns : goal.returns
returns c = λ q e b.
    let all : c.loop-f.f ≡ set_fields = omega arith in
    rw all at (c.loop-f.invariant.1 q e b)
