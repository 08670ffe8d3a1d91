-- `place` meets its contract: below `places` the shift is the power of two, which is the mask of one place; above it no
-- place passes.
use Prim.Native.Nat.{ℕ, ◌^◌, ◌%◌}
use native.Mathlib.Nat.{one-mul, mod-eq_of_lt}
use mathlib.Core.Path.{sym, ap, ◌∙◌}
use lib.Pow.{pow-lt}
use Rattle.base_places.specs.Masks.{places}
use Rattle.base_places.proofs.MaskOf.{mask_of_one, mask_of_out}
use Rattle.base_places.proofs.place.Goals as goal

pub returns-then-i-lt-PLACES : goal.returns-then-i-lt-PLACES
returns-then-i-lt-PLACES c =
    let i = c.args.i in
    ap (λ (m : ℕ). m % 18446744073709551616) (one-mul (2 ^ i)) ∙ mod-eq_of_lt (pow-lt {i = i} {j = places} c.if-i-lt-PLACES.true)
    ∙ sym (mask_of_one i c.if-i-lt-PLACES.true)

pub returns-else-i-lt-PLACES : goal.returns-else-i-lt-PLACES
returns-else-i-lt-PLACES c = sym (mask_of_out c.args.i c.if-i-lt-PLACES.false)
