-- `ask_all` meets its contract. The loop's invariant: the pairs before number `i` are all answered 1 (`Going`). Assumes nothing.
use mathlib.Core.Path.{◌≡◌}
use lib.ListN.{length}
use Rattle.catalogue_question.specs.AskedBy.{asking_coded}
use Rattle.catalogue_add.specs.Addition.{ReadyToAsk}
use Rattle.catalogue_add.proofs.Going.{Going}
use Rattle.catalogue_add.proofs.ask_all.Given as goal

abbrev pub invariant-loop-i : goal.invariant-loop-i
invariant-loop-i l =
    (length l.work ≡ length l.initial.work)
    × ((x : ReadyToAsk l.catalogue l.bytes l.kept l.new) → Going (asking_coded l.how) x.standing.rules_present x.rule l.initial.work l.work l.i)
