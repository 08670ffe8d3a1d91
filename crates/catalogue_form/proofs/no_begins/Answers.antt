-- `no_begins` meets its contract, by computation.
use mathlib.Core.Path.{refl}
use Rattle.catalogue_form.specs.Kept.{no_begins}
use Rattle.catalogue_form.proofs.no_begins.Goals as goal

pub returns : goal.returns
unfolding no_begins
returns c = refl
