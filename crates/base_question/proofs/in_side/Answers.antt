-- `in_side` meets its contract: a token that stands is counted.
use mathlib.Core.Path.{◌≡◌, ◌∙◌}
use Rattle.std.proofs.Common.{rules}
use Rattle.paper.specs.Lists.{member}
use Rattle.base_codes.specs.Inner.{tokens}
use Rattle.base_question.proofs.Counts.{stands_counted}
use Rattle.base_question.proofs.in_side.Goals as goal

pub returns : goal.returns
returns c =
    let side = tokens c.args.side.now in
    let any : c.contains.result ≡ member c.args.token side = search rules in
    any ∙ stands_counted c.args.token side
