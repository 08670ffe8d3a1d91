-- `stands_twice` meets its contract: what `any` tells of the counts is what the definition does.
use mathlib.Core.Path.{ap, ◌∙◌}
use mathlib.Core.Bool.{Bool}
use Prim.Native.Nat.{ℕ}
use borrow.Author.Rules.{rules}
use lib.Dec.{ltb}
use Rattle.std.proofs.Common.{tests}
use Rattle.std.proofs.lemmas.Iterator.{YieldsList-from_slice}
use Rattle.std.proofs.lemmas.Iterator.Search.{any_from_yields_List}
use Rattle.paper.specs.Lists.{any}
use Rattle.plain_count.specs.StandingsCoded.{twice_coded}
use Rattle.plain_count.proofs.Walked.{any_listed}
use Rattle.plain_count.proofs.stands_twice.Goals as goal

abbrev twice : ℕ → Bool
twice n = ltb 1 n

pub returns : goal.returns
unfolding twice_coded
returns c =
    any_from_yields_List twice _ _ c.any.result c.any.ensures.ran (YieldsList-from_slice c.standings-counts.result c.iter.ensures.rest)
    (λ n b q k. search (rules, tests))
    ∙ any_listed twice c.standings-counts.result
    ∙ ap (any twice) c.standings-counts.ensures
