-- `put_rules` meets its contract. The loop's invariant: the rules before number `i` are put (`Walking`), and the next one begins within the catalogue.
use Prim.Native.Nat.{◌≤◌}
use mathlib.Core.Path.{◌≡◌}
use lib.ListN.{length}
use Rattle.carry_put.proofs.RulesPut.{Walking}
use Rattle.carry_put.proofs.put_rules.Given as goal

abbrev pub invariant-loop : goal.invariant-loop
invariant-loop l =
    (l.at ≤ length l.catalogue) × (length l.bytes ≡ length l.initial.bytes) × Walking l.change l.initial.bytes l.bytes l.end l.catalogue l.rules l.at l.counter
