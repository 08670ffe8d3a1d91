-- `field_stands` meets its contract: by the field's token, each way out a law of `FieldsStanding`.
use native.Mathlib.Omega.{arith}
use mathlib.Core.Path.{sym, ◌∙◌}
use Rattle.base_editions.specs.Editions.{paper_edition}
use Rattle.write_records.proofs.FieldsStanding.{tokens_below, stands_left, stands_right, no_field}
use Rattle.write_records.proofs.field_stands.Goals as goal

pub returns-then-f-ge-SHEET_FIELDS : goal.returns-then-f-ge-SHEET_FIELDS
returns-then-f-ge-SHEET_FIELDS c =
    let a = c.args in
    no_field (paper_edition a.edition) a.f a.left.now a.right.now c.if-f-ge-SHEET_FIELDS.true

pub overflow_add-token : goal.overflow_add-token
overflow_add-token c =
    let a = c.args in
    record { fits = omega (arith, c.codes_from.ensures, c.if-f-ge-SHEET_FIELDS.false, tokens_below (paper_edition a.edition)) }

pub returns-then-stands : goal.returns-then-stands
returns-then-stands c =
    let a = c.args in
    stands_left (paper_edition a.edition) a.f c.if-f-ge-SHEET_FIELDS.false a.left.now a.right.now c.codes_from.result c.codes_from.ensures
    (sym c.stands.ensures ∙ c.if-stands.true)

pub returns : goal.returns
returns c =
    let a = c.args in
    stands_right (paper_edition a.edition) a.f c.if-f-ge-SHEET_FIELDS.false a.left.now a.right.now c.codes_from.result c.codes_from.ensures
    (sym c.stands.ensures ∙ c.if-stands.false) c.stands-2.ensures
