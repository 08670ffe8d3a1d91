-- `expression` meets its contract: the spelling from the first byte on, with as many turns as there are bytes.
use native.Mathlib.Omega.{arith}
use lib.ListN.{length}
use Rattle.base_editions.specs.Editions.{paper_edition}
use Rattle.script_terms.proofs.CodesAt.{as_many_codes}
use Rattle.script_terms.specs.Spelt.{term_spelt}
use Rattle.script_terms.proofs.expression.Goals as goal

pub returns : goal.returns
unfolding term_spelt
returns c =
    let a = c.args in
    (c.spell-whole.ensures (length a.pattern.now) (omega (arith, as_many_codes (paper_edition a.edition) a.pattern.now))).puts
