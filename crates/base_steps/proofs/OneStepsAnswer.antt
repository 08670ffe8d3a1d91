-- An answer can be told from its numbers, so two answers that tell the same outcome are the same. And how large the numbers are. Follows by cases.
use Prim.Native.Nat.{ℕ, ◌<◌}
use native.Mathlib.Omega.{arith}
use mathlib.Core.Path.{◌≡◌, refl, sym, ap, ◌∙◌}
use mathlib.Core.Bool.{cond}
use mathlib.Core.List.{List}
use lib.Dec.{eqb, lit<}
use Rattle.paper.specs.Lists.{member}
use Rattle.paper.specs.Buffers.{sheet_numbers}
use Rattle.std.proofs.Common.{Ok, Err}
use Rattle.paper_steps.specs.StepsOutcome.{StepsOutcome}
use Rattle.base_answers.specs.Faults.{fault_of}
use Rattle.base_answers.proofs.Same.{fault_from, fault_among, fault_numbered}
use Rattle.base_answers.proofs.FaultNumbers.{fault_below}
use Rattle.base_steps.specs.StepsNumbered.{StepsAnswer, end_numbers, steps_numbers, told_steps}
use Rattle.base_steps.specs.declared.StepsHow.{StepsHow}
use Rattle.base_steps.specs.declared.StepsHow.TheVariants.{Clash, NoClash, NoRoom, SideTooLong, AnswerTooShort, StepsTooShort}

-- the end with this number
how_from : ℕ → ℕ → ℕ → StepsHow
how_from n written steps =
    cond (eqb n 0) (Clash written steps)
    (cond (eqb n 1) NoClash
    (cond (eqb n 18) NoRoom
    (cond (eqb n 19) SideTooLong
    (cond (eqb n 20) AnswerTooShort StepsTooShort))))

-- the answer with these numbers
answer_from : StepsOutcome → StepsAnswer
answer_from o =
    cond (member o.number sheet_numbers) (Err (record { fault = fault_from o.number; place = o.place }))
    (Ok (record { how = how_from o.number o.written o.step_bytes; count = o.count }))

module _ (answer work steps : List ℕ) where
  end_told : (how : StepsHow) (n : ℕ) →
      let r : StepsAnswer = Ok (record { how = how; count = n }) in answer_from (told_steps r answer work steps) ≡ r
  unfolding answer_from how_from
  end_told (Clash written many) n = refl
  end_told NoClash n = refl
  end_told NoRoom n = refl
  end_told SideTooLong n = refl
  end_told AnswerTooShort n = refl
  end_told StepsTooShort n = refl

  answer_told : (r : StepsAnswer) → answer_from (told_steps r answer work steps) ≡ r
  unfolding answer_from
  answer_told (Ok e) = end_told e.how e.count
  answer_told (Err r) = rw (fault_among r.fault, fault_numbered r.fault) refl

-- Two answers that tell the same are the same.
pub one_steps_answer : (r r' : StepsAnswer) (a a' w w' s s' : List ℕ) → told_steps r a w s ≡ told_steps r' a' w' s' → r ≡ r'
one_steps_answer r r' a a' w w' s s' same = sym (answer_told a w s r) ∙ ap answer_from same ∙ answer_told a' w' s' r'

end_below : (how : StepsHow) (n : ℕ) → (end_numbers how n).number < 52
end_below (Clash written many) n = lit< tt
end_below NoClash n = lit< tt
end_below NoRoom n = lit< tt
end_below SideTooLong n = lit< tt
end_below AnswerTooShort n = lit< tt
end_below StepsTooShort n = lit< tt

-- 51 is the last of its numbers.
pub steps_number_below : (a : StepsAnswer) → (steps_numbers a).number < 52
steps_number_below (Ok e) = end_below e.how e.count
steps_number_below (Err r) = omega (arith, fault_below (fault_of r.fault))
