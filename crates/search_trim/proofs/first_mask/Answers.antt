-- `first_mask` meets its contract: each way out by what `stands` ensures.
use mathlib.Core.Path.{sym, ◌∙◌}
use Rattle.search_trim.proofs.FirstSets.{first_left, first_right, first_neither}
use Rattle.search_trim.proofs.first_mask.Goals.{then-stands, else-stands}
use Rattle.search_trim.proofs.first_mask.Goals as goal

pub returns-then-stands-2 : goal.returns-then-stands-2
returns-then-stands-2 c =
    let a = c.args in
    elim c.if-stands.branch [
      | then-stands w ↦ sym (first_left a.l.now a.r.now a.f (sym c.stands.ensures ∙ w.if-stands.true))
      | else-stands w ↦ sym (first_right a.l.now a.r.now a.f (sym w.stands-else-stands.ensures ∙ sym w.value-is ∙ c.if-stands-2.true))
    ]

pub returns-else-stands-2 : goal.returns-else-stands-2
returns-else-stands-2 c =
    let a = c.args in
    elim c.if-stands.branch [
      | then-stands w ↦ absurd (cc)
      | else-stands w ↦
          sym (first_neither a.l.now a.r.now a.f (sym c.stands.ensures ∙ w.if-stands.false) (sym w.stands-else-stands.ensures ∙ sym w.value-is ∙ c.if-stands-2.false))
    ]
