-- `puts_before` tests the step, then the two fronts. Follows from the tests.
use Prim.Native.Nat.{◌+◌}
use borrow.Author.Tests.{lt-ltb, le-ltb, eq-eqb, ne_eqb}
use Rattle.paper.specs.Numbers.{most_characters}
use Rattle.base_codes.specs.Inner.{field_code}
use Rattle.search_records.specs.Records.{puts_in}
use Rattle.search_records.proofs.slot.Slot.puts_before.Goals as goal

pub returns-then-step-ge-CHARACTERS : goal.returns-then-step-ge-CHARACTERS
unfolding puts_in
returns-then-step-ge-CHARACTERS c = rw (le-ltb c.args.step most_characters c.if-step-ge-CHARACTERS.true)

pub returns-then-self-at : goal.returns-then-self-at
unfolding puts_in
returns-then-self-at c =
    let args = c.args in
    rw (lt-ltb args.step most_characters c.if-step-ge-CHARACTERS.false, eq-eqb _ (field_code + args.f) c.if-self-at.true)

pub returns : goal.returns
unfolding puts_in
returns c =
    let args = c.args in
    rw (lt-ltb args.step most_characters c.if-step-ge-CHARACTERS.false, ne_eqb _ (field_code + args.f) c.if-self-at.false)
