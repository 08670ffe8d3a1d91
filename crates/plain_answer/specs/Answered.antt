-- What is answered of a question, by how many bytes are lent: one way for each answer. And how many bytes it needs. Of any question of the code.
use Rattle.std.specs.Prelude.{ℕ, ◌+◌, ◌/◌, ◌≤◌, ◌<◌, ◌≡◌, true, false, Option, Some, None, Result, Ok, Err}
use Rattle.base_question.specs.declared.Question.{Question}
use Rattle.plain_count.specs.StandingsCoded.{twice_coded, bits_coded}
use Rattle.plain_question.specs.Reached.{Meets, Says}
use Rattle.plain_answer.specs.declared.Verdict.{Verdict}
use Rattle.plain_answer.specs.declared.Verdict.TheVariants.{Clash, NoClash}
use Rattle.plain_answer.specs.declared.PlainError.{PlainError}
use Rattle.plain_answer.specs.declared.PlainError.TheVariants as Plain
use Rattle.plain_answer.specs.declared.NeededError.{NeededError}
use Rattle.plain_answer.specs.declared.NeededError.TheVariants.{StandsTwice, Refused}
use Rattle.plain_answer.specs.declared.Answering.{Answering}

abbrev pub PlainAnswer : Type 0
PlainAnswer = Result Verdict PlainError

abbrev pub Needed : Type 0
Needed = Result ℕ NeededError

-- what is told: of a question in which no field stands twice its verdict, if the bits fit, and the bytes that they need
abbrev pub Told : Type 0
Told = Result Answering NeededError

abbrev pub answering_of : Option Verdict → ℕ → Told
answering_of verdict needed = Ok (record { verdict = verdict; needed = needed })

-- the whole bytes that have the question's bits
abbrev pub bytes_of : Question → ℕ
bytes_of s = (bits_coded s + 7) / 8

-- no field stands twice, and the bits fit
pub record Fit (s : Question) (lent : ℕ) : Type 0 where
  pub once : twice_coded s.left s.right ≡ false
  pub fit : bytes_of s ≤ lent

pub data Answered (s : Question) (lent : ℕ) : Told → Type 0 where
  stands_twice : twice_coded s.left s.right ≡ true → Answered s lent (Err StandsTwice)
  bits_too_few : twice_coded s.left s.right ≡ false → lent < bytes_of s → Answered s lent (answering_of None (bytes_of s))
  clash : Fit s lent → Says true (Meets s) → Answered s lent (answering_of (Some Clash) (bytes_of s))
  no_clash : Fit s lent → Says false (Meets s) → Answered s lent (answering_of (Some NoClash) (bytes_of s))

-- what tells no bytes gives no answer
abbrev pub plain_error : NeededError → PlainError
plain_error StandsTwice = Plain.StandsTwice
plain_error (Refused r) = Plain.Refused r

-- what is answered, by the verdict: there is none where the bits don't fit
abbrev pub verdict_said : Option Verdict → PlainAnswer
verdict_said (Some verdict) = Ok verdict
verdict_said None = Err Plain.BitsTooFew

-- what is answered, by what is told
abbrev pub answer_by : Told → PlainAnswer
answer_by (Ok told) = verdict_said told.verdict
answer_by (Err e) = Err (plain_error e)

-- what is needed, by what is told
abbrev pub needed_by : Told → Needed
needed_by (Ok told) = Ok told.needed
needed_by (Err e) = Err e
