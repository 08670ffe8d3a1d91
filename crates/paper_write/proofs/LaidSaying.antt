-- The sheet that says a question is the sheet laid out of what the question has to say.
--   laid_back    : read_sheet s ≡ asked q → sheet_laid (to_say q) ≡ s
--   written_back : "writing what was read from a good sheet gives the same bytes": writing (to_say q) out ≡ put_into s out
--   said_written : Sayable q → strays q ≡ [] → writing (to_say q) out ≡ put_into (sheet_saying q) out
--   carried_by   : a sheet that is carried over (request K5) is written so
-- Follows from the law that a question's sheet is read back (`Saying`), and from the law that what was read from a good sheet says it (`SaidBack` of `paper_carry`).
use Prim.Native.Nat.{ℕ}
use mathlib.Core.Path.{◌≡◌}
use mathlib.Core.List.{List, []}
use Rattle.paper.specs.Question.{Question}
use Rattle.paper.specs.Sheet.{asked, strays, read_sheet}
use Rattle.paper.specs.Saying.{sheet_laid, to_say, sheet_saying}
use Rattle.paper_laws.proofs.sheets.LastChecked.{asked_before}
use Rattle.paper_laws.proofs.saying.Saying.{Sayable, reads_back}
use Rattle.paper_carry.specs.Opened.{spelt_open}
use Rattle.paper_carry.specs.Spelling.{put_into, spelling}
use Rattle.paper_carry.proofs.Carried.{sheet_carried}
use Rattle.paper_carry.proofs.SaidBack.{said_back}
use Rattle.paper_write.specs.Writing.{writing}

module _ (s : List ℕ) (q : Question) (e : read_sheet s ≡ asked q) where
  pub laid_back : sheet_laid (to_say q) ≡ s
  unfolding sheet_saying
  laid_back = said_back s q (asked_before s q e)

  pub written_back : (out : List ℕ) → writing (to_say q) out ≡ put_into s out
  unfolding writing
  written_back out = rw (laid_back, e)

  -- "the same with 68 65 0 42", behind `ED` with "196 193 0 127"
  pub carried_by : (out : List ℕ) → spelling s out ≡ writing (to_say (spelt_open q)) out
  unfolding spelling writing sheet_saying
  carried_by out = rw (e, (sheet_carried s q e).asks)

pub said_written : (q : Question) → Sayable q → strays q ≡ [] → (out : List ℕ) → writing (to_say q) out ≡ put_into (sheet_saying q) out
unfolding writing sheet_saying
said_written q h none out = rw (reads_back q h none)
