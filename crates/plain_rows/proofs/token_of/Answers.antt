-- `token_of` meets its contract. Follows from the tests on the code, as the definition makes them.
use Prim.Native.Nat.{ℕ, ◌+◌}
use native.Mathlib.Numerals.{add-one}
use native.Mathlib.Omega.{arith}
use mathlib.Core.Path.{◌≡◌, sym, ap, ◌∙◌}
use mathlib.Core.Bool.{true}
use Rattle.paper.specs.Numbers.{set_fields}
use Rattle.paper.proofs.base.Tests.{lt_ltb, le_ltb}
use Rattle.base_codes.specs.Inner.{field_code, field_of, is_char}
use Rattle.plain_rows.specs.Rows.{character_row}
use Rattle.plain_rows.proofs.Rows.{token_character, token_field, token_end}
use Rattle.plain_rows.proofs.token_of.Goals as goal

pub returns-then-b-lt-FIELD_CODE : goal.returns-then-b-lt-FIELD_CODE
returns-then-b-lt-FIELD_CODE c =
    let b = c.args.b in
    let m = c.args.characters in
    let n : is_char b ≡ true = lt_ltb b field_code c.if-b-lt-FIELD_CODE.true in
    let e = c.from-a.ensures in
    (λ i. record { row = character_row; lo = e i; hi = (ap (λ (x : ℕ). x + 1) e ∙ add-one b) i }) ∙ sym (token_character m b n)

pub returns-then-f-lt-FIELDS : goal.returns-then-f-lt-FIELDS
returns-then-f-lt-FIELDS c =
    let b = c.args.b in
    let m = c.args.characters in
    let e = c.field_of-f.ensures in
    (λ i. record { row = e i; lo = 0; hi = m })
    ∙ sym (token_field m b (le_ltb b field_code c.if-b-lt-FIELD_CODE.false) (lt_ltb (field_of b) set_fields (omega (arith, e, c.if-f-lt-FIELDS.true))))

pub returns : goal.returns
returns c =
    let b = c.args.b in
    let m = c.args.characters in
    let e = c.field_of-f.ensures in
    sym (token_end m b (le_ltb b field_code c.if-b-lt-FIELD_CODE.false) (le_ltb (field_of b) set_fields (omega (arith, e, c.if-f-lt-FIELDS.false))))
