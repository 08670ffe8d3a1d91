-- `shifts` meets its contract: the characters that have a shift sign are counted.
use Rattle.std.proofs.Common.{rules, tests}
use mathlib.Core.Path.{◌∙◌}
use Rattle.std.proofs.lemmas.Iterator.{YieldsList-from_slice}
use Rattle.std.proofs.lemmas.Iterator.Consumers.{count_from_yields_List, YieldsList-from_filter}
use Rattle.spell_text.proofs.SpeltWalk.{has_shift, shifts_counted}
use Rattle.spell_text.proofs.shifts.Goals as goal

pub returns : goal.returns
returns c =
    let text = c.args.text.now in
    count_from_yields_List c.filter.result _ c.count.ensures.ran
    (YieldsList-from_filter _ has_shift (YieldsList-from_slice text cc) c.filter.ensures.closure (λ x b q k. search (rules, tests)))
    ∙ shifts_counted text
