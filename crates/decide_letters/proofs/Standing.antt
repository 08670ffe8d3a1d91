-- A pattern that stands, as it was read, says what the field may hold:
--   says_standing : Stands e s b h → Says e s b h
-- Follows from `says_judged`.
use Prim.Native.Nat.{ℕ}
use mathlib.Core.Path.{refl}
use mathlib.Core.List.{List}
use Rattle.paper.specs.Alphabet.{Edition}
use Rattle.paper.specs.Pattern.{Held}
use Rattle.base_question.specs.declared.Body.{Body}
use Rattle.read_fields.proofs.PatternsStanding.{Stands, no_pattern, its_pattern}
use Rattle.decide_letters.proofs.PatternRead.{Says, says_judged}

pub says_standing : {e : Edition} {s : List ℕ} {b : Body} {h : Held} → Stands e s b h → Says e s b h
says_standing no_pattern = refl
says_standing {e} {s} (its_pattern b p some within its short) = says_judged e s b p some short its
