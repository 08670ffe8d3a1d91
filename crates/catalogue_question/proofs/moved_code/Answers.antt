-- `moved_code` meets its contract. Assumes nothing.
use Prim.Native.Nat.{◌+◌}
use native.Mathlib.Omega.{arith}
use Rattle.paper.specs.Numbers.{rule_fields}
use Rattle.paper.proofs.base.Tests.{le_leb, lt_leb, lt_ltb, le_ltb}
use Rattle.base_codes.specs.Inner.{field_code, no_token}
use Rattle.catalogue_question.proofs.moved_code.Goals as goal

pub returns-then-b-lt-FIELD_CODE : goal.returns-then-b-lt-FIELD_CODE
returns-then-b-lt-FIELD_CODE c = rw (lt_leb field_code c.args.b c.if-b-lt-FIELD_CODE.true)

pub returns-then-b-ge-MOVABLE : goal.returns-then-b-ge-MOVABLE
returns-then-b-ge-MOVABLE c =
    let b = c.args.b in
    rw (le_leb field_code b c.if-b-lt-FIELD_CODE.false, le_ltb (b + rule_fields) no_token (omega (arith, c.if-b-ge-MOVABLE.true)))

pub returns : goal.returns
returns c =
    let b = c.args.b in
    rw (le_leb field_code b c.if-b-lt-FIELD_CODE.false, lt_ltb (b + rule_fields) no_token (omega (arith, c.if-b-ge-MOVABLE.false)))
