-- `held` meets its contract: the bytes that are spelt are those of what the field may hold (`Holding`).
use native.Mathlib.Nat.{add-sub_cancel_left}
use native.Mathlib.Omega.{arith}
use Rattle.script_sheet.proofs.Holding.{spelt_spaces, spelt_open, spelt_body}
use Rattle.base_editions.specs.Editions.{paper_edition}
use Rattle.script_sheet.proofs.memberships.held.Goals as goal

pub returns-then-f-ge-SHEET_FIELDS : goal.returns-then-f-ge-SHEET_FIELDS
returns-then-f-ge-SHEET_FIELDS c = λ q e b.
    let x = paper_edition c.args.edition in
    rw (spelt_spaces x c.args.sheet.now q e c.args.f c.if-f-ge-SHEET_FIELDS.true c.requires.0 c.any_spaces-code.result c.any_spaces-code.ensures)
    c.expression.ensures

pub returns-then-length-eq0 : goal.returns-then-length-eq0
returns-then-length-eq0 c = λ q e b.
    let x = paper_edition c.args.edition in
    rw (spelt_open x c.args.sheet.now q e c.args.f c.if-f-ge-SHEET_FIELDS.false c.args.body b c.if-length-eq0.true c.some_characters-code.result c.some_characters-code.ensures)
    c.expression-then-length-eq0.ensures

pub overflow_add-start : goal.overflow_add-start
overflow_add-start c = omega (arith, c.requires.1, c)

pub returns : goal.returns
returns c = λ q e b.
    let body = c.args.body in
    rw (spelt_body (paper_edition c.args.edition) c.args.sheet.now q e c.args.f c.if-f-ge-SHEET_FIELDS.false body b c.if-length-eq0.false)
    (rw (add-sub_cancel_left body.start body.length) at c.expression-2.ensures)
