-- `character` meets its contract: the sign of its value alone, or two. Follows from `CharacterPut`.
use mathlib.Core.Path.{sym, ◌∙◌}
use Rattle.base_editions.specs.Editions.{paper_edition}
use Rattle.print_lines.proofs.CharacterPut.{put_alone, put_shifted}
use Rattle.print_lines.proofs.character.Goals as goal

pub returns-in-None : goal.returns-in-None
returns-in-None c =
    let a = c.args in
    put_alone (paper_edition a.edition) a.c c.value-value.result c.value-value.ensures (sym c.shift.ensures ∙ c.in-None.is) c.sign.ensures c.put.ensures

pub returns-in-Some : goal.returns-in-Some
returns-in-Some c =
    let a = c.args in
    put_shifted (paper_edition a.edition) a.c c.value-value.result c.value-value.ensures (sym c.shift.ensures ∙ c.in-Some.is)
    c.sign-in-Some.ensures
    c.sign-in-Some-2.ensures
    c.put-behind.ensures
    c.put-in-Some.ensures
