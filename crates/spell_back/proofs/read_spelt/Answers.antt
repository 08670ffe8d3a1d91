-- `read_spelt` meets its contract, by what is read and by the room (`BackAnswered`).
use Prim.Native.Nat.{ℕ, ◌<◌, ◌≤◌}
use mathlib.Core.Path.{◌≡◌, refl, ap, ◌∙◌, subst}
use mathlib.Core.List.{List, ◌++◌}
use Rattle.std.proofs.Common.{Err}
use lib.ListN.{length}
use borrow.Author.Rules.{rules}
use Rattle.paper_spell.specs.FullAscii.{read_back}
use Rattle.spell_text.specs.SpeltNumbers.{told_spelt}
use Rattle.spell_text.specs.declared.SpellError.TheVariants.{NotInTable, TooShort}
use Rattle.spell_back.specs.BackPut.{Puts}
use Rattle.spell_back.proofs.BackAnswered.{none_put, told_no_text, told_no_room, told_read, and_promised}
use Rattle.spell_back.proofs.read_spelt.Goals.{After-put_back, Start}
use Rattle.spell_back.proofs.read_spelt.Goals as goal

-- measuring changes nothing
same_out : (m : After-put_back) → m.put_back.new.out ++ m.args.out.now ≡ m.args.out.now
same_out m = none_put m.put_back.new.out m.put_back.auto.out m.args.out.now

pub returns-in_default : goal.returns-in_default
returns-in_default c =
    let a = c.args in
    let told = and_promised a.spelt.now a.out.now _
    (ap (told_spelt (Err NotInTable)) (same_out (goal.at.returns-in_default c).After-put_back)
    ∙ told_no_text a.spelt.now a.out.now (search rules) refl (rw c.in_default.is at c.put_back.ensures)) in
    record { whole = told.0; promised = told.1 }

pub returns-then-out-bytes : goal.returns-then-out-bytes
returns-then-out-bytes c =
    let a = c.args in
    let told = and_promised a.spelt.now a.out.now _
    (ap (told_spelt (Err TooShort)) (same_out (goal.at.returns-then-out-bytes c).After-put_back)
    ∙ told_no_room a.spelt.now a.out.now (search rules) c.in-Some.ensures
    (subst (λ (l : List ℕ). length l < c.in-Some.bytes) (same_out (goal.at.returns-then-out-bytes c).After-put_back) c.if-out-bytes.true)) in
    record { whole = told.0; promised = told.1 }

pub returns : goal.returns
returns c =
    let a = c.args in
    let told = and_promised a.spelt.now a.out.now _
    (told_read a.spelt.now a.out.now (search rules) c.in-Some.ensures
    (search rules)
    (subst (λ (l : List ℕ). c.in-Some.bytes ≤ length l) (same_out (goal.at.returns c).After-put_back) c.if-out-bytes.false)
    (subst (λ (l : List ℕ). Puts l c.put_back-2.new.out c.put_back-2.result (read_back a.spelt.now)) (same_out (goal.at.returns c).After-put_back) c.put_back-2.ensures)) in
    record { whole = told.0; promised = told.1 }
