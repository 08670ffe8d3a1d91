-- What the pattern reader's answer says of the bytes that it judged. Follows from the cases of `worked_of`.
use Prim.Native.Nat.{ℕ, ◌≤◌}
use mathlib.Core.Path.{◌≡◌, refl}
use mathlib.Core.List.{List}
use lib.ListN.{length}
use Rattle.std.specs.Prelude.{Ok, Err}
use Rattle.paper.specs.Pattern.{Pattern, pattern}
use Rattle.paper.specs.Written.{Judged, not_one_pattern, too_many_leaves, judged, judge}
use Rattle.paper_laws.proofs.places.Judged.{within_not_one, within_too_many}
use Rattle.base_answers.specs.declared.Fault.TheVariants.{NotOnePattern, TooManyLeaves}
use Rattle.base_answers.specs.declared.Refusal.{Refusal}
use Rattle.base_places.specs.WorkedOut.{worked_out}
use Rattle.base_places.specs.declared.PlaceTables.{PlaceTables}
use Rattle.read_pattern.specs.Worked.{worked_of}

-- the bytes are refused, with the offset of the byte at fault
pub data Refused (x : Refusal) (j : Judged) : Type 0 where
  told_not_one : j ≡ not_one_pattern x.place → x.fault ≡ NotOnePattern → Refused x j
  told_too_many : j ≡ too_many_leaves x.place → x.fault ≡ TooManyLeaves → Refused x j

pub told_refused : (x : Refusal) (j : Judged) → worked_of j ≡ Err x → Refused x j
told_refused x (not_one_pattern i) e =
    let same : record { fault = NotOnePattern; place = i } ≡ x = cc in
    rw (← same) (told_not_one refl refl)
told_refused x (too_many_leaves i) e =
    let same : record { fault = TooManyLeaves; place = i } ≡ x = cc in
    rw (← same) (told_too_many refl refl)
told_refused x (judged p) e = absurd (cc)

-- the offset is one of theirs
pub told_within : (s : List ℕ) (x : Refusal) → worked_of (judge s) ≡ Err x → x.place ≤ length s
told_within s x e = by_refused (told_refused x (judge s) e)
  where
    by_refused : Refused x (judge s) → x.place ≤ length s
    by_refused (told_not_one h k) = within_not_one s x.place h
    by_refused (told_too_many h k) = within_too_many s x.place h

pub told_good : (t : PlaceTables) (j : Judged) → worked_of j ≡ Ok t → (p : Pattern) × ((j ≡ judged p) × (t ≡ worked_out (pattern p)))
told_good t (not_one_pattern i) e = absurd (cc)
told_good t (too_many_leaves i) e = absurd (cc)
told_good t (judged p) e = let same : t ≡ worked_out (pattern p) = cc in (p, (refl, same))
