-- `lay` meets its contract. The loop's invariant: the fields below `f` have their rows (`Laid`), whatever the closure gives of each.
use mathlib.Core.Path.{◌≡◌}
use Rattle.std.specs.Fn.{FnReturnsAt}
use Rattle.base_places.specs.declared.PlaceTables.{PlaceTables}
use Rattle.plain_rows.proofs.Rows.{Laid}
use Rattle.plain_rows.proofs.lay.Given as goal

abbrev pub invariant-loop-f : goal.invariant-loop-f
invariant-loop-f g l = (of : PlaceTables → _) → ((t : PlaceTables) (x : _) → FnReturnsAt g.F.Fn l.part t x → x ≡ of t) → Laid of l.own l.initial.rows l.rows l.f
