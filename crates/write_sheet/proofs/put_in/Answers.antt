-- `put_in` meets its contract: the edition's record, the patterns, then each side, and the last check (`InOrder`).
use native.Mathlib.Omega.{arith}
use mathlib.Core.Path.{◌≡◌, refl}
use lib.ListN.{length}
use Rattle.std.proofs.lemmas.Result.{err_from_is_err_and}
use Rattle.paper.specs.Sheet.{LE, RI}
use Rattle.paper.specs.Saying.{edition_laid, edition_byte}
use Rattle.paper_write.proofs.LaidShort.{lengths_known}
use Rattle.base_editions.specs.Editions.{paper_edition}
use Rattle.base_put.proofs.Counting.{counted_length}
use Rattle.write_sheet.specs.SheetWritten.{given}
use Rattle.write_sheet.proofs.SheetPut.{front_short}
use Rattle.write_sheet.proofs.StraysChecked.{known_by}
use Rattle.write_sheet.proofs.InOrder.{fields_stopped, left_stopped, right_stopped, stray_met, whole_laid}
use Rattle.write_sheet.proofs.put_in.Goals.{After-put_edition-front}
use Rattle.write_sheet.proofs.put_in.Goals as goal

-- how many bytes the edition's record has
front_length : (e : After-put_edition-front) → let ed = paper_edition e.args.edition in
    e.put_edition-front.result ≡ length (edition_laid (edition_byte ed))
front_length e =
    let ed = paper_edition e.args.edition in
    counted_length e.put_edition-front.ensures (omega (arith, front_short ed))

pub put_patterns-requires : goal.put_patterns-requires
put_patterns-requires c =
    omega (arith, front_length (goal.at.put_patterns-requires c).After-put_edition-front, front_short (paper_edition c.args.edition))

pub put_side-requires : goal.put_side-requires
put_side-requires c = (omega (arith, c.in_ok-fields.ensures.low), (LE, refl))

pub put_side-requires-2 : goal.put_side-requires-2
put_side-requires-2 c = (omega (arith, c.in_ok-first.ensures.low, c.in_ok-fields.ensures.low), (RI, refl))

pub returns-in_err-fields : goal.returns-in_err-fields
returns-in_err-fields c n =
    let a = c.args in
    let ed = paper_edition a.edition in
    let t = given n a.patterns.now a.lengths.now a.left.now a.right.now in
    let front = front_length (goal.at.returns-in_err-fields c).After-put_edition-front in
    let p = err_from_is_err_and c.from_residual.result c.from_residual.ensures.1 in
    rw (p.1, p.2) (fields_stopped ed t _ (c.in_err-fields.ensures.laid _ _ front c.put_edition-front.ensures.bytes))

pub returns-in_err-first : goal.returns-in_err-first
returns-in_err-first c n =
    let a = c.args in
    let ed = paper_edition a.edition in
    let t = given n a.patterns.now a.lengths.now a.left.now a.right.now in
    let front = front_length (goal.at.returns-in_err-first c).After-put_edition-front in
    let p = err_from_is_err_and c.from_residual-in_err-first.result c.from_residual-in_err-first.ensures.1 in
    rw (p.1, p.2) (left_stopped ed t _ (c.in_err-first.ensures.laid _ _ LE refl (c.in_ok-fields.ensures.laid _ _ front c.put_edition-front.ensures.bytes)))

pub returns-in_err-last : goal.returns-in_err-last
returns-in_err-last c n =
    let a = c.args in
    let ed = paper_edition a.edition in
    let t = given n a.patterns.now a.lengths.now a.left.now a.right.now in
    let front = front_length (goal.at.returns-in_err-last c).After-put_edition-front in
    let p = err_from_is_err_and c.from_residual-in_err-last.result c.from_residual-in_err-last.ensures.1 in
    rw (p.1, p.2) (right_stopped ed t _ (c.in_err-last.ensures.laid _ _ RI refl (c.in_ok-first.ensures.laid _ _ LE refl (c.in_ok-fields.ensures.laid _ _ front c.put_edition-front.ensures.bytes))))

pub check_strays-requires : goal.check_strays-requires
check_strays-requires c =
    let a = c.args in
    let ed = paper_edition a.edition in
    let front = front_length (goal.at.check_strays-requires c).After-put_edition-front in (
      omega (arith, front, front_short ed),
      known_by a.lengths.now c.in_ok-last.last
          (lengths_known ed (edition_laid (edition_byte ed)) a.lengths.now a.patterns.now a.left.now a.right.now)
          (c.in_ok-last.ensures.laid _ _ RI refl (c.in_ok-first.ensures.laid _ _ LE refl (c.in_ok-fields.ensures.laid _ _ front c.put_edition-front.ensures.bytes))),
    )

pub returns-in_err-check_strays : goal.returns-in_err-check_strays
returns-in_err-check_strays c n =
    let a = c.args in
    let ed = paper_edition a.edition in
    let t = given n a.patterns.now a.lengths.now a.left.now a.right.now in
    let front = front_length (goal.at.returns-in_err-check_strays c).After-put_edition-front in
    let p = err_from_is_err_and c.from_residual-in_err-check_strays.result c.from_residual-in_err-check_strays.ensures.1 in
    rw (p.1, p.2) (stray_met ed t _ c.in_ok-last.last (rw front at c.in_err-check_strays.ensures) (c.in_ok-last.ensures.laid _ _ RI refl (c.in_ok-first.ensures.laid _ _ LE refl (c.in_ok-fields.ensures.laid _ _ front c.put_edition-front.ensures.bytes))))

pub returns : goal.returns
returns c n =
    let a = c.args in
    let ed = paper_edition a.edition in
    let t = given n a.patterns.now a.lengths.now a.left.now a.right.now in
    let front = front_length (goal.at.returns c).After-put_edition-front in
    whole_laid ed t c.in_ok-last.last (rw front at c.in_ok-check_strays.ensures) (c.in_ok-last.ensures.laid _ _ RI refl (c.in_ok-first.ensures.laid _ _ LE refl (c.in_ok-fields.ensures.laid _ _ front c.put_edition-front.ensures.bytes)))
