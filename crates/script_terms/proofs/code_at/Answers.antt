-- `code_at` meets its contract: the code of a byte is the one among the codes of all.
use mathlib.Core.Path.{sym, ◌∙◌}
use Rattle.base_editions.specs.Editions.{paper_edition}
use Rattle.script_terms.proofs.CodesAt.{code_there}
use Rattle.script_terms.proofs.code_at.Goals as goal

pub returns : goal.returns
returns c =
    c.code.ensures ∙ sym (code_there (paper_edition c.args.edition) c.args.s.now c.args.i c.requires)
