-- What is answered of a good question of the paper, and how many bytes it needs, are what the definitions of the engine say.
--   answered_told : Answered s (length lent) x → told_plain (answer_by x) (replicate (length lent) 0) ≡ engine_of (asked q) lent
--   needed_told   : Answered s lent x → told_needed (needed_by x) ≡ needs_of (asked q)
-- s is the question of the code. Follows from what counting tells (`twice_told`, `bits_told`) and from what the engine does (`said_of_good`).
use Prim.Native.Nat.{ℕ, ◌+◌, ◌*◌, ◌/◌, ◌<◌}
use native.Mathlib.Omega.{arith}
use mathlib.Core.Path.{◌≡◌, sym, ap, ◌∙◌, subst}
use mathlib.Core.Bool.{Bool, true, false, not}
use mathlib.Core.List.{List}
use lib.Dec.{leb}
use lib.ListN.{length, replicate}
use Rattle.paper.specs.Plain.{plain}
use Rattle.paper.specs.Question.{Question}
use Rattle.paper.specs.Sheet.{asked}
use Rattle.paper.proofs.base.Tests.{le_leb, lt_leb}
use Rattle.paper_laws.proofs.sheets.Asked.{GoodQuestion, good_most}
use Rattle.paper_plain.specs.Engine.{bits_of, clashes_apart, engine_of, needs_of}
use Rattle.base_question.specs.Asked.{question_of}
use Rattle.base_question.specs.declared.Body.{Body}
use Rattle.base_question.specs.declared.Question as Code
use Rattle.plain_count.specs.StandingsCoded.{twice_coded, bits_coded}
use Rattle.plain_count.proofs.TwiceTold.{twice_told}
use Rattle.plain_count.proofs.BitsTold.{bits_told}
use Rattle.plain_question.specs.Reached.{Meets, Says}
use Rattle.plain_answer.specs.Answered.{Told, bytes_of, Fit, Answered, stands_twice, bits_too_few, clash, no_clash, answer_by, needed_by}
use Rattle.plain_answer.specs.EngineNumbers.{told_plain, told_needed}
use Rattle.plain_question.proofs.Standings.{said_of_good}

module _ (q : Question) (good : GoodQuestion q) (bodies : List Body) (s : Code.Question) (is : s ≡ question_of q bodies) where
  twice_is : twice_coded s.left s.right ≡ not (plain q.left q.right)
  twice_is =
      ap (λ (x : Code.Question). twice_coded x.left x.right) is
      ∙ twice_told q.alphabet.characters (good_most good) q.left q.right good.left good.right

  bits_are : bits_coded s ≡ bits_of q
  bits_are = ap bits_coded is ∙ bits_told q good bodies

  says_apart : (r : Bool) → Says r (Meets s) → clashes_apart q ≡ r
  says_apart r h = sym (said_of_good q good bodies r (subst (λ (x : Code.Question). Says r (Meets x)) is h))

  bytes_are : bytes_of s ≡ (bits_of q + 7) / 8
  bytes_are = ap (λ (n : ℕ). (n + 7) / 8) bits_are

  -- eight bits a byte
  fits : {lent : ℕ} → Fit s lent → leb (bits_of q) (8 * lent) ≡ true
  fits {lent} f = le_leb (bits_of q) (8 * lent) (let k = f.fit in omega (arith, k, bits_are))

  fits_not : {lent : ℕ} → lent < bytes_of s → leb (bits_of q) (8 * lent) ≡ false
  fits_not {lent} k = lt_leb (bits_of q) (8 * lent) (omega (arith, k, bits_are))

  pub answered_told : (lent : List ℕ) {x : Told} → Answered s (length lent) x
      → told_plain (answer_by x) (replicate (length lent) 0) ≡ engine_of (asked q) lent
  answered_told lent (stands_twice h) = rw (sym twice_is ∙ h)
  answered_told lent (bits_too_few h k) = rw (sym twice_is ∙ h, fits_not k)
  answered_told lent (clash f h) = rw (sym twice_is ∙ f.once, fits f, says_apart true h)
  answered_told lent (no_clash f h) = rw (sym twice_is ∙ f.once, fits f, says_apart false h)

  pub needed_told : {lent : ℕ} {x : Told} → Answered s lent x → told_needed (needed_by x) ≡ needs_of (asked q)
  needed_told (stands_twice h) = rw (sym twice_is ∙ h)
  needed_told (bits_too_few h k) = rw (sym twice_is ∙ h, bytes_are)
  needed_told (clash f h) = rw (sym twice_is ∙ f.once, bytes_are)
  needed_told (no_clash f h) = rw (sym twice_is ∙ f.once, bytes_are)
