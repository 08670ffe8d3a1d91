-- `front_with` meets its contract. Follows from what `gather` and `row` ensure.
use Prim.Native.Nat.{ℕ, ◌<◌}
use native.Mathlib.Omega.{arith}
use mathlib.Core.List.{[]}
use lib.Dec.{ltb}
use lib.ListN.{get_or}
use Rattle.paper.specs.Numbers.{set_fields}
use Rattle.paper.proofs.base.Tests.{cond_by, ltb_true}
use Rattle.base_codes.specs.Inner.{field_of}
use Rattle.search_fronts.specs.Fronts.{row_number, front_from}
use Rattle.search_fronts.proofs.front_with.Goals as goal

row_below : (b : ℕ) → row_number b < set_fields
unfolding row_number
row_below b = cond_by (λ (x : ℕ). x < set_fields) (ltb (field_of b) set_fields) (λ e. ltb_true (field_of b) set_fields e) (λ e. omega arith)

pub returns : goal.returns
unfolding front_from
returns c = (
  rw c.row-row.ensures (row_below c.args.token),
  λ taking. λ i. record { token = c.args.token; followers = c.gather-followers.ensures i; row = get_or taking (c.row-row.ensures i) [] },
)
