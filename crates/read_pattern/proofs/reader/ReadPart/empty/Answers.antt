-- `ReadPart::empty` meets its contract: the empty text has no leaf, so every mask is 0.
use native.Mathlib.Omega.{arith}
use mathlib.Core.Path.{refl, sym}
use Rattle.base_places.proofs.MaskOf.{mask_of_none}
use Rattle.read_pattern.proofs.Surplus.{surplus_none}
use Rattle.read_pattern.proofs.reader.ReadPart.empty.Goals as goal

pub returns : goal.returns
returns c rest e =
    record { left = sym e; each = refl; next = omega arith; surplus = surplus_none c.args.o; empty = refl; first = sym mask_of_none; last = sym mask_of_none }
