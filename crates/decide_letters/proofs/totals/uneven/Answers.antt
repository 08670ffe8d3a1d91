-- `uneven` meets its contract, test by test (`BothWeighed`).
use mathlib.Core.Path.{sym, ◌∙◌}
use Rattle.decide_letters.proofs.BothWeighed.{left_lighter, right_lighter, no_steps, by_steps}
use Rattle.decide_letters.proofs.totals.uneven.Goals as goal

pub returns-then-lighter : goal.returns-then-lighter
returns-then-lighter c =
    let t = c.args.t in
    left_lighter t (sym c.lighter.ensures ∙ c.if-lighter.true)

pub returns-then-lighter-2 : goal.returns-then-lighter-2
returns-then-lighter-2 c =
    let t = c.args.t in
    right_lighter t (sym c.lighter-2.ensures ∙ c.if-lighter-2.true)

pub returns-then-t-eq0 : goal.returns-then-t-eq0
returns-then-t-eq0 c =
    let t = c.args.t in
    no_steps t c.between-apart.result c.between-apart.ensures c.if-t-eq0.true
    (sym c.lighter.ensures ∙ c.if-lighter.false) (sym c.lighter-2.ensures ∙ c.if-lighter-2.false)

pub returns : goal.returns
returns c =
    let t = c.args.t in
    by_steps t c.between-apart.result c.between-apart.ensures
    (sym c.lighter.ensures ∙ c.if-lighter.false) (sym c.lighter-2.ensures ∙ c.if-lighter-2.false)
