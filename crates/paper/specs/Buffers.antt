-- Demand 1 as a statement about any outcome o for a reading, a working buffer and an answer buffer, lists of bytes: 01's table of answers, with
-- its numbers. A sheet's is that of `read_sheet sheet`. That the outcome of 01 (`Outcome.outcome_of`, for a sheet `Outcome.outcome`) meets it,
-- for all readings and lists, is proved in `Demand1`. What the answers of the search mean is demands 2 and 3 (`Demands`).
use Rattle.std.specs.Prelude.{ℕ, ◌≡◌, true, List, [], ◌∷◌, ◌++◌, length, replicate}
use Rattle.paper.specs.Lists.{member}
use Rattle.paper.specs.Sheet.{Fault, fault_number, Reading, refused}
use Rattle.paper.specs.Outcome.{Outcome}

-- the numbers of the answers: clash, no clash and the refusals of the search; the faults of a sheet
abbrev pub search_numbers : List ℕ
search_numbers = 0 ∷ 1 ∷ 18 ∷ 19 ∷ 20 ∷ []

abbrev pub sheet_numbers : List ℕ
sheet_numbers = 11 ∷ 12 ∷ 13 ∷ 14 ∷ 15 ∷ 16 ∷ 17 ∷ 44 ∷ 22 ∷ []

-- rows 0, 1 and 18 to 20
pub record AfterSearch (work : List ℕ) (o : Outcome) : Type 0 where
  pub place : o.place ≡ 0
  -- "all zero": every byte, those behind the last situation too
  pub all_zero : o.work ≡ replicate (length work) 0

-- rows 11 to 17, 22 and 44
pub record AfterFault (work : List ℕ) (o : Outcome) : Type 0 where
  pub count : o.count ≡ 0
  pub unchanged : o.work ≡ work

-- every row but 0
pub record NoByte (answer : List ℕ) (o : Outcome) : Type 0 where
  pub written : o.written ≡ 0
  pub unchanged : o.answer ≡ answer

-- Demand 1.
pub record Demand1 (r : Reading) (work answer : List ℕ) (o : Outcome) : Type 0 where
  -- "Every sheet of bytes and every size of lent buffer gets one of the numbered answers."
  pub numbered : member o.number (search_numbers ++ sheet_numbers) ≡ true
  -- "A refusal writes no answer byte", and no clash writes none.
  pub no_byte : (o.number ≡ 0 → ⊥) → NoByte answer o
  -- "What the working buffer holds afterwards is fixed for each answer."
  pub after_search : member o.number search_numbers ≡ true → AfterSearch work o
  pub after_fault : member o.number sheet_numbers ≡ true → AfterFault work o
  -- "The first fault met decides." "The place should be the byte itself."
  pub first_fault : (x : Fault) (at : ℕ) → r ≡ refused x at → (o.number ≡ fault_number x) × (o.place ≡ at)
