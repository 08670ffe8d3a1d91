-- What the bytes of a pattern come to (document 01, "Places"), for any bytes: what is worked out of a good pattern, or how they are refused.
use Rattle.std.specs.Prelude.{Result, Ok, Err}
use Rattle.paper.specs.Pattern.{pattern}
use Rattle.paper.specs.Written.{Judged, not_one_pattern, too_many_leaves, judged}
use Rattle.base_answers.specs.declared.Fault.TheVariants.{NotOnePattern, TooManyLeaves}
use Rattle.base_answers.specs.declared.Refusal.{Refusal}
use Rattle.base_places.specs.WorkedOut.{worked_out}
use Rattle.base_places.specs.declared.PlaceTables.{PlaceTables}

-- what bytes come to that are judged so; a fault with the offset of its byte
abbrev pub worked_of : Judged → Result PlaceTables Refusal
worked_of (not_one_pattern i) = Err (record { fault = NotOnePattern; place = i })
worked_of (too_many_leaves i) = Err (record { fault = TooManyLeaves; place = i })
worked_of (judged p) = Ok (worked_out (pattern p))
