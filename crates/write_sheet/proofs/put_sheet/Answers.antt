-- `put_sheet` meets its contract, by the edition that is given.
use mathlib.Core.Path.{refl}
use borrow.Author.Tests.{eq-eqb, ne_eqb}
use Rattle.paper.specs.Sheet.{wrong_edition}
use Rattle.paper_write.specs.Laying.{laying}
use Rattle.write_records.specs.RecordPut.{refused}
use Rattle.write_sheet.proofs.put_sheet.Goals as goal

pub returns-then-edition-eq0 : goal.returns-then-edition-eq0
unfolding laying
returns-then-edition-eq0 c =
    let a = c.args in
    rw (eq-eqb a.edition 0 c.if-edition-eq0.true) (c.put_in.ensures a.edition)

pub returns-then-edition-eq2 : goal.returns-then-edition-eq2
unfolding laying
returns-then-edition-eq2 c =
    let a = c.args in
    rw (ne_eqb a.edition 0 c.if-edition-eq0.false, eq-eqb a.edition 2 c.if-edition-eq2.true) (c.put_in-then-edition-eq2.ensures a.edition)

pub returns : goal.returns
unfolding laying
returns c =
    let a = c.args in
    rw (ne_eqb a.edition 0 c.if-edition-eq0.false, ne_eqb a.edition 2 c.if-edition-eq2.false) (refused wrong_edition 2 refl)
