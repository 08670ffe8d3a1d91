-- `body_of` meets its contract, by its test.
use mathlib.Core.Path.{sym}
use lib.Dec.{ltb}
use lib.ListN.{get_or}
use Rattle.paper.specs.Numbers.{fields}
use Rattle.paper.proofs.base.Tests.{cond_true, cond_false, lt_ltb, le_ltb}
use Rattle.base_question.specs.Bodies.{nowhere}
use Rattle.script_sheet.proofs.body_of.Goals as goal

pub returns-then-f-lt-SHEET_FIELDS : goal.returns-then-f-lt-SHEET_FIELDS
returns-then-f-lt-SHEET_FIELDS c =
    let a = c.args in
    sym (cond_true (ltb a.f fields) (get_or a.bodies a.f nowhere) nowhere (lt_ltb a.f fields c.if-f-lt-SHEET_FIELDS.true))

pub returns : goal.returns
returns c =
    let a = c.args in
    sym (cond_false (ltb a.f fields) (get_or a.bodies a.f nowhere) nowhere (le_ltb a.f fields c.if-f-lt-SHEET_FIELDS.false))
