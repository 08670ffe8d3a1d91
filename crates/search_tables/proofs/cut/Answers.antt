-- `cut` meets its contract. The loop's invariant: the row is cut to the characters below `c` (`CutSteps`).
use native.Mathlib.Omega.{arith}
use mathlib.Core.Path.{◌≡◌, ◌∙◌}
use Rattle.search_tables.proofs.CutSteps.{cut_none, cut_more, cut_less, cut_room}
use Rattle.search_tables.proofs.cut.Goals.{then-among-c, else-among-c}
use Rattle.search_tables.proofs.cut.Goals as goal

pub loop-c-init : goal.loop-c-init
loop-c-init c = cut_none c.args.among.now c.args.row.now

pub loop-c-preserved : goal.loop-c-preserved
loop-c-preserved c =
    let a = c.args in
    let l = c.loop-c in
    elim c.if-among-c.branch [
      | then-among-c w ↦ rw (w.masks-is, l.invariant) (cut_more a.among.now a.row.now l.c _ (omega (arith, c.within-c-end.ensures.1)) (rw w.if-among-c.true))
      | else-among-c w ↦ rw (w.masks-is, l.invariant) (cut_less a.among.now a.row.now l.c w.if-among-c.false)
    ]

pub returns : goal.returns
returns c =
    let l = c.loop-c in
    let same : l.c ≡ c.within-c-end.result = omega arith in
    l.invariant ∙ rw (same, c.within-c-end.ensures.0) (cut_room c.args.among.now c.args.row.now c.args.characters)
