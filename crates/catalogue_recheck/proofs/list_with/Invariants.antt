-- `list_with` meets its contract. The loop's invariant: the pairs with the rules before number `j` are listed (`ListingWith`).
-- Assumes nothing.
use mathlib.Core.Path.{◌≡◌}
use lib.ListN.{length}
use Rattle.catalogue_question.specs.AskedBy.{asking_coded}
use Rattle.catalogue_recheck.specs.PairList.{ReadyToList}
use Rattle.catalogue_recheck.proofs.PairListing.{ListingWith}
use Rattle.catalogue_recheck.proofs.list_with.Given as goal

abbrev pub invariant-loop-j : goal.invariant-loop-j
invariant-loop-j l =
    (length l.work ≡ length l.initial.work) × (length l.bytes ≡ length l.initial.bytes)
    × ((x : ReadyToList (asking_coded l.how) l.catalogue l.kept l.lower l.rule l.initial.work l.initial.bytes l.n)
    → ListingWith (asking_coded l.how) x.standing.rules_present l.lower l.initial.work l.work l.initial.bytes l.bytes l.n l.j l.end)
