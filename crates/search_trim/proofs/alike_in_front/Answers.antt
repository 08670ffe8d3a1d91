-- `alike_in_front` meets its contract: what is counted are the pairs in front that are alike (`TrimTurns`).
use mathlib.Core.Path.{◌∙◌}
use borrow.Author.Rules.{rules}
use borrow.Author.Tests.{tests}
use Rattle.std.specs.List.{zip}
use Rattle.std.proofs.lemmas.Iterator.{YieldsList-from_slice, YieldsList-from_zip}
use Rattle.std.proofs.lemmas.Iterator.Consumers.{YieldsList-at, count_from_yields_List}
use Rattle.std.proofs.lemmas.Iterator.Search.{YieldsList-from_take_while}
use Rattle.std.proofs.lemmas.List.Folds.{length-prefix_len}
use Rattle.search_trim.proofs.TrimTurns.{alike, alike_pairs}
use Rattle.search_trim.proofs.alike_in_front.Goals as goal

pub returns : goal.returns
returns c =
    let l = c.args.l.now in
    let r = c.args.r.now in
    let pairs = YieldsList-from_zip (YieldsList-from_slice {s = _} l (cc)) (YieldsList-from_slice {s = _} r (cc)) in
    count_from_yields_List c.take_while.result _ c.count.ensures.ran
    (YieldsList-from_take_while _ alike (YieldsList-at c.take_while.ensures.source pairs) c.take_while.ensures.closure c.take_while.ensures.done (λ x b q k. search (rules, tests)))
    ∙ length-prefix_len alike (zip l r) ∙ alike_pairs l r
