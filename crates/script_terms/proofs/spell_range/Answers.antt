-- `spell_range` meets its contract, by its test.
use Prim.Native.Nat.{◌+◌}
use native.Mathlib.Omega.{arith}
use mathlib.Core.Path.{refl, sym}
use lib.ListN.{length}
use Rattle.paper.specs.Alphabet.{codes}
use Rattle.paper.proofs.base.Tests.{lt_ltb, le_ltb}
use Rattle.base_put.proofs.Counting.{counted_none}
use Rattle.base_editions.specs.Editions.{paper_edition}
use Rattle.script_terms.proofs.CodesAt.{as_many_codes}
use Rattle.script_terms.proofs.spell_range.Goals as goal

pub returns-then-s-i-lt3 : goal.returns-then-s-i-lt3
returns-then-s-i-lt3 c =
    let a = c.args in
    let e = paper_edition a.edition in
    let same = as_many_codes e a.s.now in
    rw (lt_ltb (length (codes e a.s.now)) (a.i + 3) (omega (arith, same, c.if-s-i-lt3.true))) (record { puts = counted_none; goes_on = sym same })

pub returns : goal.returns
returns c =
    let a = c.args in
    let e = paper_edition a.edition in
    rw (le_ltb (length (codes e a.s.now)) (a.i + 3) (omega (arith, as_many_codes e a.s.now, c.if-s-i-lt3.false)))
    (record { puts = rw (c.code_at-lo.ensures, c.code_at-hi.ensures) at c.range_expression-end.ensures; goes_on = refl })
