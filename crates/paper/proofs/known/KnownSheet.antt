-- What a known sheet is: its bytes, the buffers lent, and the whole outcome that must come. Known sheets are proved in `paper_vectors`, those that
-- an edit of `paper` needs beside this file (`KnownFew`).
use Prim.Native.Nat.{ℕ}
use mathlib.Core.Bool.{Bool, true, false, cond}
use mathlib.Core.List.{List, [], ◌∷◌, ◌++◌}
use lib.ListN.{length, drop, replicate}
use Rattle.paper.specs.Outcome.{Outcome, outcome}

-- a sheet, the bytes lent, and what must come: the answer bytes, and whether the working buffer is all zero afterwards or unchanged
pub record Known : Type 0 where
  pub sheet : List ℕ
  pub work_bytes : ℕ
  pub answer_bytes : ℕ
  pub number : ℕ
  pub count : ℕ
  pub place : ℕ
  pub bytes : List ℕ
  pub all_zero : Bool

-- an answer of the search: sheet, working bytes, answer bytes, number, count, answer
abbrev pub answer_row : List ℕ → ℕ → ℕ → ℕ → ℕ → List ℕ → Known
answer_row s w a n c b =
    record { sheet = s; work_bytes = w; answer_bytes = a; number = n; count = c; place = 0; bytes = b; all_zero = true }

-- a sheet at fault: number, place
abbrev pub fault_row : List ℕ → ℕ → ℕ → Known
fault_row s n p =
    record { sheet = s; work_bytes = 190; answer_bytes = 8; number = n; count = 0; place = p; bytes = []; all_zero = false }

abbrev pub work_before : Known → List ℕ
work_before k = replicate k.work_bytes 90

abbrev pub answer_before : Known → List ℕ
answer_before k = replicate k.answer_bytes 165

abbrev pub got : Known → Outcome
got k = outcome k.sheet (work_before k) (answer_before k)

abbrev pub wanted : Known → Outcome
wanted k =
    record {
      number = k.number;
      count = k.count;
      place = k.place;
      written = length k.bytes;
      answer = k.bytes ++ drop (length k.bytes) (answer_before k);
      work = cond k.all_zero (replicate k.work_bytes 0) (work_before k);
    }

-- the records of a sheet and of an answer; `ED` and the byte 2 (request K10)
abbrev pub ED_2 : List ℕ
ED_2 = 69 ∷ 68 ∷ 2 ∷ []

abbrev pub PA : ℕ → List ℕ → List ℕ
PA f p = 80 ∷ 65 ∷ f ∷ length p ∷ p

abbrev pub LE : List ℕ → List ℕ
LE side = 76 ∷ 69 ∷ length side ∷ side

abbrev pub RI : List ℕ → List ℕ
RI side = 82 ∷ 73 ∷ length side ∷ side

abbrev pub VA : ℕ → List ℕ → List ℕ
VA f text = 86 ∷ 65 ∷ f ∷ length text ∷ 0 ∷ text

-- field 0, field 1, three characters
abbrev pub x : ℕ
x = 64

abbrev pub y : ℕ
y = 65

abbrev pub A : ℕ
A = 10

abbrev pub B : ℕ
B = 11

abbrev pub space : ℕ
space = 38

-- x any digits, y the digit 4, x and y the sides
abbrev pub sheet_S : List ℕ
sheet_S =
    80 ∷ 65 ∷ 0 ∷ 4 ∷ 68 ∷ 65 ∷ 0 ∷ 9 ∷ 80 ∷ 65 ∷ 1 ∷ 1 ∷ 4 ∷ 76 ∷ 69 ∷ 1 ∷ 64 ∷ 82 ∷ 73 ∷ 1 ∷ 65 ∷ []

abbrev pub answer_S : List ℕ
answer_S = 86 ∷ 65 ∷ 0 ∷ 1 ∷ 0 ∷ 4 ∷ 86 ∷ 65 ∷ 1 ∷ 1 ∷ 0 ∷ 4 ∷ []
