-- `times` meets its contract: those that pass the test are kept.
use native.Mathlib.Omega.{arith}
use mathlib.Core.Path.{◌≡◌, ◌∙◌}
use lib.Dec.{eqb}
use Rattle.std.proofs.Common.{rules}
use Rattle.std.specs.List.{count_by}
use Rattle.base_codes.specs.Inner.{tokens}
use Rattle.base_codes.proofs.Tokens.{tokens_length}
use Rattle.base_question.proofs.Counts.{counts_kept, length_keep}
use Rattle.base_question.proofs.times.Goals as goal

pub returns-clause-few : goal.returns-clause-few
returns-clause-few c =
    let side = tokens c.args.side.now in
    let n : c.count.result ≡ count_by (eqb c.args.token) side = search rules in
    omega (arith, n, counts_kept (eqb c.args.token) side, length_keep (eqb c.args.token) side, tokens_length c.args.side.now)

pub returns-clause-times : goal.returns-clause-times
returns-clause-times c =
    let side = tokens c.args.side.now in
    let n : c.count.result ≡ count_by (eqb c.args.token) side = search rules in
    n ∙ counts_kept (eqb c.args.token) side
