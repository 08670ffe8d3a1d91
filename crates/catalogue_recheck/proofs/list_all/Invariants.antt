-- `list_all` meets its contract. The loop's invariant: the pairs of the rules before number `i` are listed (`ListingAll`).
-- Assumes nothing.
use mathlib.Core.Path.{◌≡◌}
use lib.ListN.{length}
use Rattle.catalogue_form.specs.Kept.{OfForm}
use Rattle.catalogue_question.specs.AskedBy.{asking_coded}
use Rattle.catalogue_recheck.proofs.PairListing.{ListingAll}
use Rattle.catalogue_recheck.proofs.list_all.Given as goal

abbrev pub invariant-loop-i : goal.invariant-loop-i
invariant-loop-i l =
    (length l.work ≡ length l.initial.work) × (length l.bytes ≡ length l.initial.bytes)
    × ((x : OfForm l.catalogue l.kept) → ListingAll (asking_coded l.how) x.rules_present l.initial.work l.work l.initial.bytes l.bytes l.i l.n)
