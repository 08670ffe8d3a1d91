-- How long an answer can be: an answer buffer that has, for each of the eight fields, a record's head and a byte for each situation of the
-- room is always long enough.
--   answer_enough : fields * (record_head + room_of work) ≤ length answer → the number is not 20
-- Follows from `text_below_room`, since there is one record at most for a field.
use Prim.Native.Nat.{ℕ, ◌+◌, ◌*◌, ◌≤◌}
use native.Mathlib.Nat.{mul-le-mul_right, suc-mul}
use native.Mathlib.Omega.{arith}
use mathlib.Core.Path.{◌≡◌, refl}
use mathlib.Core.Bool.{Bool}
use mathlib.Core.List.{List, [], ◌∷◌, ◌++◌}
use lib.ListN.{length, length-append}
use Rattle.paper.specs.Lists.{only, keep, each, upto}
use Rattle.paper.specs.Numbers.{fields}
use Rattle.paper.specs.Equation.{stands_in}
use Rattle.paper.specs.Places.{PlaceSet}
use Rattle.paper.specs.Search.{Entry, found}
use Rattle.paper.specs.Situation.{Situation, Move}
use Rattle.paper.specs.Question.{Question, hidden}
use Rattle.paper.specs.Sheet.{Reading}
use Rattle.paper.specs.Outcome.{room_of, standing, value_record, outcome_of}
use Rattle.paper.specs.Demands.{end_of, texts_spelt, records_of}
use Rattle.paper.proofs.base.Tests.{true_false}
use Rattle.paper.proofs.base.Lists.{length_only, length_from}
use Rattle.paper_laws.proofs.sheets.TextLength.{text_below_room}
use Rattle.paper_laws.proofs.sheets.Rows.{Row, faulty, is_too_short, in_row}

-- `VA`, field byte, length in two bytes
abbrev pub record_head : ℕ
record_head = 5

module _ {A : Type 0} where
  keep_short : (p : A → Bool) (l : List A) → length (keep p l) ≤ length l
  keep_short p [] = omega arith
  keep_short p (x ∷ l) = omega (arith, length-append (only (p x) x) (keep p l), length_only (p x) x, keep_short p l)

  each_short : (g : A → List ℕ) (k : ℕ) → ((x : A) → length (g x) ≤ k) → (l : List A) → length (each g l) ≤ length l * k
  each_short g k h [] = omega arith
  each_short g k h (x ∷ l) =
      omega (arith, length-append (g x) (each g l), h x, each_short g k h l, suc-mul (length l) k)

standing_few : (q : Question) → length (standing q) ≤ fields
unfolding standing
standing_few q =
    omega (arith, keep_short (λ (f : ℕ). stands_in f (q.left ++ q.right)) (upto fields), length_from 0 fields)

module _ (q : Question) (work : List ℕ) (e : Entry (Situation PlaceSet) Move) (h : end_of (hidden q) work ≡ found e) where
  record_short : (f : ℕ) → length (value_record f (texts_spelt (hidden q) e f)) ≤ record_head + room_of work
  unfolding value_record
  record_short f = omega (arith, text_below_room (hidden q) work e h f)

  records_short : length (records_of q (texts_spelt (hidden q) e)) ≤ fields * (record_head + room_of work)
  records_short =
      let few : length (standing q) ≤ fields = standing_few q in
      let each-record = each_short (λ (f : ℕ). value_record f (texts_spelt (hidden q) e f)) (record_head + room_of work) record_short (standing q) in
      omega (arith, each-record, mul-le-mul_right (record_head + room_of work) few)

pub answer_enough : (r : Reading) (work answer : List ℕ) → fields * (record_head + room_of work) ≤ length answer
    → (outcome_of r work answer).number ≡ 20 → ⊥
answer_enough r work answer h n = too_short (in_row r work answer 20 n)
  where
    too_short : Row r work answer (outcome_of r work answer) 20 → ⊥
    too_short (faulty x at e n z) = true_false n refl
    too_short (is_too_short q e g end k) = omega (arith, records_short q work e end)
