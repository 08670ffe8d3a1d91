-- `bits_of` meets its contract: the product of the two numbers of standings.
use Prim.Native.Nat.{ℕ, ◌*◌, ◌≤◌}
use native.Mathlib.Nat.{mul-le-mul}
use native.Mathlib.Omega.{arith}
use mathlib.Core.Path.{ap, ap₂, ◌∙◌}
use mathlib.Core.List.{List}
use Rattle.base_codes.specs.Inner.{tokens}
use Rattle.plain_count.specs.StandingsCoded.{standings_coded, bits_coded}
use Rattle.plain_count.proofs.bits_of.Goals as goal

few : (a b : ℕ) → a ≤ 20000 → b ≤ 20000 → a * b ≤ 400000000
few a b h k = mul-le-mul h k

pub overflow_mul-result : goal.overflow_mul-result
overflow_mul-result c =
    record { fits = omega (arith, few c.standings.result c.standings-2.result c.standings.ensures.1 c.standings-2.ensures.1) }

abbrev by : List ℕ → List ℕ → ℕ
by side places = standings_coded places (tokens side)

pub returns : goal.returns
unfolding bits_coded
returns c =
    let q = c.args.question in
    let places = c.places_of-places.ensures in (
      ap₂ ◌*◌ (c.standings.ensures.0 ∙ ap (by q.left) places) (c.standings-2.ensures.0 ∙ ap (by q.right) places),
      few c.standings.result c.standings-2.result c.standings.ensures.1 c.standings-2.ensures.1,
    )
