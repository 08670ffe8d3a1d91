-- `side_term` meets its contract, by whether the side has tokens.
use mathlib.Core.Path.{◌≡◌, sym, ◌∙◌}
use lib.ListN.{length}
use Rattle.base_put.proofs.Counting.{counted_then}
use Rattle.base_editions.specs.Editions.{paper_edition}
use Rattle.base_codes.specs.Inner.{tokens}
use Rattle.script_equation.proofs.Sides.{no_tokens, some_tokens}
use Rattle.script_equation.proofs.side_term.Goals as goal

pub returns-then-n-eq0 : goal.returns-then-n-eq0
returns-then-n-eq0 c =
    let a = c.args in
    rw (no_tokens (paper_edition a.edition) (tokens a.side) a.hidden (sym c.length_of-n.ensures.1 ∙ c.if-n-eq0.true)) c.constant.ensures

pub returns : goal.returns
returns c =
    let a = c.args in
    rw (some_tokens (paper_edition a.edition) (tokens a.side) a.hidden (λ (e : length (tokens a.side) ≡ 0). c.if-n-eq0.false (c.length_of-n.ensures.1 ∙ e)))
    (counted_then
    (counted_then (counted_then c.put_all-begun.ensures (rw c.length_of-n.ensures.2 at c.arguments-end.ensures)) (counted_then c.put-gap.ensures c.constant-behind.ensures))
    c.put.ensures)
