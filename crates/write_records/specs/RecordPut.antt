-- What judging and putting a record hands on: the fault with its place; or how long the record is, and it was put.
use Rattle.std.specs.Prelude.{ℕ, ◌≡◌, cond, List, [], eqb, length, Result, Ok, Err}
use Rattle.paper.specs.Alphabet.{Edition}
use Rattle.paper.specs.Sheet.{Fault}
use Rattle.paper_write.specs.Laying.{Laying, at_fault, laid_out, record_laid}
use Rattle.base_answers.specs.Faults.{as_fault}
use Rattle.base_answers.specs.declared.Refusal.{Refusal}
use Rattle.base_put.specs.Counted.{put_from}

-- what is laid out for a field: nothing where it has no pattern
unfoldable pub field_laid : Edition → ℕ → ℕ → List ℕ → Laying
field_laid e f n patterns = cond (eqb n 0) (laid_out []) (record_laid e f n patterns)

-- d has become e, where the record was put from `at` on
pub data Lays (d e : List ℕ) (at : ℕ) (r : Result ℕ Refusal) : Laying → Type 0 where
  refused : (x : Fault) (place : ℕ) → r ≡ Err (record { fault = as_fault x; place = place }) → Lays d e at r (at_fault x place)
  put : (bytes : List ℕ) → r ≡ Ok (length bytes) → e ≡ put_from d at bytes → Lays d e at r (laid_out bytes)
