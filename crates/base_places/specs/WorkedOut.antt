-- What is worked out once of a pattern (document 01, "Places"): its tables of masks.
use Rattle.paper.specs.Pattern.{Held}
use Rattle.base_places.specs.Masks.{follow_masks, taking_masks, last_mask}
use Rattle.base_places.specs.declared.PlaceTables.{PlaceTables}

-- the tables of what a field may hold
abbrev pub worked_out : Held → PlaceTables
worked_out h = record { follow = follow_masks h; taking = taking_masks h; last = last_mask h }
