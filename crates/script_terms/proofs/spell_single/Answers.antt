-- `spell_single` meets its contract, by its tests.
use mathlib.Core.Path.{refl, sym, ◌∙◌}
use lib.ListN.{get_or}
use Rattle.paper.specs.Numbers.{empty_code, range_code}
use Rattle.paper.specs.Alphabet.{codes}
use Rattle.paper.proofs.base.Tests.{eq_eqb, neq_eqb}
use Rattle.base_editions.specs.Editions.{paper_edition}
use Rattle.script_terms.proofs.spell_single.Goals as goal

pub returns-then-b : goal.returns-then-b
returns-then-b c =
    let a = c.args in
    let b = get_or (codes (paper_edition a.edition) a.s.now) a.i 0 in
    rw (eq_eqb b range_code (sym c.code_at-b.ensures ∙ c.if-b.true)) c.spell_range.ensures

pub returns-then-b-2 : goal.returns-then-b-2
returns-then-b-2 c =
    let a = c.args in
    let b = get_or (codes (paper_edition a.edition) a.s.now) a.i 0 in
    rw (neq_eqb b range_code (λ e. c.if-b.false (c.code_at-b.ensures ∙ e)), eq_eqb b empty_code (sym c.code_at-b.ensures ∙ c.if-b-2.true))
    (record { puts = c.put_all-end.ensures; goes_on = refl })

pub returns : goal.returns
returns c =
    let a = c.args in
    let b = get_or (codes (paper_edition a.edition) a.s.now) a.i 0 in
    rw (neq_eqb b range_code (λ e. c.if-b.false (c.code_at-b.ensures ∙ e)), neq_eqb b empty_code (λ e. c.if-b-2.false (c.code_at-b.ensures ∙ e)))
    (record { puts = rw c.code_at-b.ensures at c.one_character-end.ensures; goes_on = refl })
