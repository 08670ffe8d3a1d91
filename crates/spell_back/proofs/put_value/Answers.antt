-- `put_value` meets its contract: each way out is one of what a value does (`BackWalk`).
use mathlib.Core.Path.{◌≡◌, sym, ◌∙◌}
use mathlib.Core.Bool.{false, not, ◌&&◌}
use Rattle.std.specs.Option.{is_some}
use Rattle.paper.proofs.base.Tests.{left_false, right_false}
use Rattle.paper_spell.specs.FullAscii.{is_shift}
use Rattle.spell_back.proofs.BackWalk.{waits, not_there, makes}
use Rattle.spell_back.proofs.put_value.Goals.{After-character, else-is_none-via-then-is_none+else-is_shift, else-is_none-via-else-is_none}
use Rattle.spell_back.proofs.put_value.Goals as goal

pub returns-then-is_shift : goal.returns-then-is_shift
returns-then-is_shift c = waits c.args.before c.args.v c.if-is_none.ensures (sym c.is_shift.ensures ∙ c.if-is_shift.true)

-- where no shift sign has begun a character, the value makes one
no_sign : (j : After-character) → not (is_some j.args.before.shift) && is_shift j.args.v ≡ false
no_sign j =
    let s = j.args.before.shift in
    elim j.else-is_none.branch [
      | else-is_none-via-then-is_none+else-is_shift w ↦ right_false (not (is_some s)) (is_shift j.args.v) (sym w.is_shift.ensures ∙ w.if-is_shift.false)
      | else-is_none-via-else-is_none w ↦ left_false (not (is_some s)) (is_shift j.args.v) (rw (j.is_none.ensures, w.if-is_none.false))
    ]

pub returns-in-None : goal.returns-in-None
returns-in-None c =
    not_there c.args.before c.args.v (no_sign (goal.at.returns-in-None c).After-character) (sym c.character.ensures ∙ c.in-None.is)

pub returns-in-Some : goal.returns-in-Some
returns-in-Some c =
    makes c.args.before c.args.v (no_sign (goal.at.returns-in-Some c).After-character) (sym c.character.ensures ∙ c.in-Some.is) c.put-end.ensures
