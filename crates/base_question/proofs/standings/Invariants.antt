-- `standings` meets its contract. The loop's invariant: the fields below f are counted (`Counted`).
use Prim.Native.Nat.{ℕ, ◌+◌}
use mathlib.Core.List.{◌++◌}
use Rattle.paper.specs.Numbers.{set_fields}
use Rattle.base_codes.specs.Inner.{field_code, tokens}
use Rattle.base_question.specs.Standings.{count}
use Rattle.base_question.proofs.Counts.{Counted}
use Rattle.base_question.proofs.standings.Given as goal

abbrev pub invariant-loop-f : goal.invariant-loop-f
invariant-loop-f l = Counted (λ (x : ℕ). count (field_code + x) (tokens l.left ++ tokens l.right)) set_fields l.counts l.f
