-- `joined` meets its contract. The loop's invariant: `f` fields of the second rule are put behind the first's. Assumes nothing.
use mathlib.Core.Path.{◌≡◌}
use lib.ListN.{length}
use Rattle.paper.specs.Numbers.{rule_fields}
use Rattle.paper.specs.Numbers as Numbers
use Rattle.catalogue_question.proofs.Filled.{with_fields}
use Rattle.catalogue_question.proofs.joined.Given as goal

abbrev pub invariant-loop-f : goal.invariant-loop-f
invariant-loop-f g l = (length l.initial.both ≡ Numbers.fields) × (length l.second ≡ Numbers.fields) × (l.both ≡ with_fields rule_fields l.initial.both l.second l.f)
