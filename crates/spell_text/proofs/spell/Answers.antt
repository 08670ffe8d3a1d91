-- `spell` meets its contract, by the bytes and by the room (`SpellAnswered`).
use native.Mathlib.Omega.{arith}
use mathlib.Core.Path.{sym, ◌∙◌}
use borrow.Author.Rules.{rules}
use Rattle.spell_text.proofs.SpellAnswered.{told_no_text, told_no_room, told_spelt_out, and_promised}
use Rattle.spell_text.proofs.spell.Goals as goal

pub returns-then-not-is_text : goal.returns-then-not-is_text
returns-then-not-is_text c =
    let a = c.args in
    let told = and_promised a.text.now a.out.now _ (told_no_text a.text.now a.out.now (sym c.is_text.ensures ∙ c.if-not-is_text.true)) in
    record { whole = told.0; promised = told.1 }

pub returns-then-room-text : goal.returns-then-room-text
returns-then-room-text c =
    let a = c.args in
    let told = and_promised a.text.now a.out.now _
    (told_no_room a.text.now a.out.now (sym c.is_text.ensures ∙ c.if-not-is_text.false) (omega (arith, c.if-room-text.true))) in
    record { whole = told.0; promised = told.1 }

pub returns-then-room-text-2 : goal.returns-then-room-text-2
returns-then-room-text-2 c =
    let a = c.args in
    let told = and_promised a.text.now a.out.now _
    (told_no_room a.text.now a.out.now (sym c.is_text.ensures ∙ c.if-not-is_text.false) (omega (arith, c.if-room-text-2.true, c.shifts.ensures))) in
    record { whole = told.0; promised = told.1 }

pub returns : goal.returns
returns c =
    let a = c.args in
    let told = and_promised a.text.now a.out.now _
    (told_spelt_out a.text.now a.out.now (sym c.is_text.ensures ∙ c.if-not-is_text.false) (search rules)
    (omega (arith, c.if-room-text-2.false, c.shifts.ensures, c.if-room-text.false))
    c.put_text.ensures) in
    record { whole = told.0; promised = told.1 }
