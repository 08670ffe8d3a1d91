-- An answer can be told from its numbers, so two answers that tell the same outcome are the same. And how large the numbers are. Follows by cases.
use Prim.Native.Nat.{ℕ, ◌<◌}
use mathlib.Core.Path.{◌≡◌, refl, sym, ap, ◌∙◌}
use mathlib.Core.Bool.{cond}
use mathlib.Core.List.{List}
use lib.Dec.{eqb, lit<}
use Rattle.std.proofs.Common.{Ok, Err}
use Rattle.paper.specs.Lists.{member}
use Rattle.paper.specs.Buffers.{sheet_numbers}
use Rattle.paper.specs.Outcome.{Outcome}
use Rattle.paper.specs.Sheet as Paper
use Rattle.base_answers.specs.Faults.{fault_of}
use Rattle.base_answers.specs.AnswerNumbers.{how_number, number_in_pair, Answer, as_numbers, told}
use Rattle.base_answers.specs.declared.How.{How}
use Rattle.base_answers.specs.declared.How.TheVariants.{Clash, NoClash, NoRoom, SideTooLong, AnswerTooShort}
use Rattle.base_answers.proofs.Same.{fault_from, fault_among, fault_numbered}

-- the end with this number
how_from : ℕ → ℕ → How
how_from n written =
    cond (eqb n 0) (Clash written)
    (cond (eqb n 1) NoClash
    (cond (eqb n 18) NoRoom
    (cond (eqb n 19) SideTooLong AnswerTooShort)))

-- the answer with these numbers
answer_from : Outcome → Answer
answer_from o =
    cond (member o.number sheet_numbers) (Err (record { fault = fault_from o.number; place = o.place }))
    (Ok (record { how = how_from o.number o.written; count = o.count }))

module _ (answer work : List ℕ) where
  end_told : (how : How) (n : ℕ) →
      let r : Answer = Ok (record { how = how; count = n }) in answer_from (told r answer work) ≡ r
  unfolding answer_from how_from
  end_told (Clash written) n = refl
  end_told NoClash n = refl
  end_told NoRoom n = refl
  end_told SideTooLong n = refl
  end_told AnswerTooShort n = refl

  answer_told : (r : Answer) → answer_from (told r answer work) ≡ r
  unfolding answer_from
  answer_told (Ok e) = end_told e.how e.count
  answer_told (Err r) = rw (fault_among r.fault, fault_numbered r.fault) refl

-- two answers that tell the same are the same
pub one_answer : (r r' : Answer) (a a' w w' : List ℕ) → told r a w ≡ told r' a' w' → r ≡ r'
one_answer r r' a a' w w' same = sym (answer_told a w r) ∙ ap answer_from same ∙ answer_told a' w' r'

pub fault_below : (x : Paper.Fault) → Paper.fault_number x < 45
fault_below Paper.cut_short = lit< tt
fault_below Paper.wrong_mark = lit< tt
fault_below Paper.wrong_field = lit< tt
fault_below Paper.wrong_length = lit< tt
fault_below Paper.not_one_pattern = lit< tt
fault_below Paper.too_many_leaves = lit< tt
fault_below Paper.wrong_token = lit< tt
fault_below Paper.wrong_edition = lit< tt
fault_below Paper.stray_pattern = lit< tt

how_below : (how : How) → how_number how < 45
how_below (Clash written) = lit< tt
how_below NoClash = lit< tt
how_below NoRoom = lit< tt
how_below SideTooLong = lit< tt
how_below AnswerTooShort = lit< tt

-- 44 is the last of a sheet's numbers
pub number_below : (a : Answer) → (as_numbers a).number < 45
number_below (Ok e) = how_below e.how
number_below (Err r) = fault_below (fault_of r.fault)

pub pair_below : (how : How) → number_in_pair how < 20
pair_below (Clash written) = lit< tt
pair_below NoClash = lit< tt
pair_below NoRoom = lit< tt
pair_below SideTooLong = lit< tt
pair_below AnswerTooShort = lit< tt
