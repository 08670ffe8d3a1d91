-- `codes_of` meets its contract. The loop's invariant: the codes of the first i bytes are laid (`Laying`). Assumes nothing.
use native.Mathlib.Numerals.{add-one}
use native.Mathlib.Omega.{arith}
use mathlib.Core.Path.{◌∙◌}
use Rattle.paper.specs.Numbers.{not_a_code}
use Rattle.base_editions.specs.Editions.{paper_edition}
use Rattle.read_codes.proofs.Laying.{more_codes, all_laid, most_laid}
use Rattle.read_codes.proofs.codes_of.Goals as goal

pub returns-then-i : goal.returns-then-i
returns-then-i g c =
    let l = c.loop-i in
    let a = c.args in
    l.invariant.1 ∙ most_laid (paper_edition a.edition) a.bytes.now g.row.N l.i l.invariant.0.0 c.if-i.true

pub loop-i-preserved : goal.loop-i-preserved
loop-i-preserved g c =
    let l = c.loop-i in
    let a = c.args in (
      (omega arith, omega (arith, l.invariant.0.1, c.if-i.false)),
      rw (l.invariant.1, add-one l.i)
          (more_codes (paper_edition a.edition) a.bytes.now not_a_code g.row.N l.i (omega arith) (omega (arith, l.invariant.0.1, c.if-i.false)) c.code.result c.code.ensures),
    )

pub returns : goal.returns
returns g c =
    let l = c.loop-i in
    let a = c.args in
    l.invariant.1 ∙ all_laid (paper_edition a.edition) a.bytes.now g.row.N l.i (omega (arith, l.invariant.0.0, c)) l.invariant.0.1
