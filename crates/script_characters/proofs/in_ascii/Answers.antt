-- `in_ascii` meets its contract, by its tests.
use Rattle.paper.proofs.base.Tests.{eq_eqb, neq_eqb}
use Rattle.paper_script.specs.Lexemes.{quotation_mark}
use Rattle.paper_script.specs.Script.{character}
use mathlib.Core.Path.{sym, ◌∙◌}
use Rattle.script_characters.proofs.in_ascii.Goals as goal

pub returns-then-c-eq34 : goal.returns-then-c-eq34
unfolding character
returns-then-c-eq34 c =
    rw (eq_eqb c.args.c quotation_mark c.if-c-eq34.true) c.put_all.ensures

pub returns-then-is_plain : goal.returns-then-is_plain
unfolding character
returns-then-is_plain c =
    rw (neq_eqb c.args.c quotation_mark c.if-c-eq34.false, sym c.is_plain.ensures ∙ c.if-is_plain.true) c.put.ensures

pub returns : goal.returns
unfolding character
returns c =
    rw (neq_eqb c.args.c quotation_mark c.if-c-eq34.false, sym c.is_plain.ensures ∙ c.if-is_plain.false) c.escaped.ensures
