-- Any two results that the promise of the way allows are equal: the answer and the steps buffer afterwards. An answer can be told from its numbers. And how
-- large the numbers are.
use Prim.Native.Nat.{ℕ, ◌<◌}
use native.Mathlib.Omega.{arith}
use mathlib.Core.Path.{◌≡◌, refl, sym, ap, ◌∙◌}
use mathlib.Core.Bool.{cond}
use mathlib.Core.List.{List}
use lib.Dec.{eqb, lit<}
use Rattle.paper.specs.Lists.{member}
use Rattle.paper.specs.Buffers.{sheet_numbers}
use Rattle.paper_way.specs.WayOutcome.{Way, way}
use Rattle.base_answers.specs.Faults.{fault_of}
use Rattle.base_answers.proofs.FaultNumbers.{fault_below}
use Rattle.base_answers.proofs.Same.{fault_from, fault_among, fault_numbered}
use Rattle.play_walk.specs.declared.Stop.TheVariants.{PastMost, NoRecord, NotAllowed, SideTooLong, Unfinished}
use Rattle.std.specs.Prelude.{Ok, Err}
use Rattle.way_question.specs.declared.WayStop.TheVariants.{StepsTooShort}
use Rattle.way_question.specs.declared.WayStop.TheVariants as Stop-as
use Rattle.way_sheet.specs.WayNumbers.{WayAnswer, way_numbers, told_way}
use Rattle.way_sheet.specs.declared.WayError.TheVariants.{Refused, Stopped}

-- the answer with these numbers
answer_from : Way → WayAnswer
answer_from o =
    cond (member o.number sheet_numbers) (Err (Refused (record { fault = fault_from o.number; place = o.place })))
    (cond (eqb o.number 0) (Ok o.written)
    (cond (eqb o.number 19) (Err (Stopped (Stop-as.Stopped SideTooLong)))
    (cond (eqb o.number 47) (Err (Stopped (Stop-as.Stopped NoRecord)))
    (cond (eqb o.number 48) (Err (Stopped (Stop-as.Stopped NotAllowed)))
    (cond (eqb o.number 49) (Err (Stopped (Stop-as.Stopped Unfinished)))
    (cond (eqb o.number 50) (Err (Stopped (Stop-as.Stopped PastMost)))
    (Err (Stopped StepsTooShort))))))))

answer_back : (r : WayAnswer) (steps : List ℕ) → answer_from (told_way r steps) ≡ r
unfolding answer_from
answer_back (Ok n) steps = refl
answer_back (Err (Stopped StepsTooShort)) steps = refl
answer_back (Err (Stopped (Stop-as.Stopped PastMost))) steps = refl
answer_back (Err (Stopped (Stop-as.Stopped NoRecord))) steps = refl
answer_back (Err (Stopped (Stop-as.Stopped NotAllowed))) steps = refl
answer_back (Err (Stopped (Stop-as.Stopped SideTooLong))) steps = refl
answer_back (Err (Stopped (Stop-as.Stopped Unfinished))) steps = refl
answer_back (Err (Refused r)) steps = rw (fault_among r.fault, fault_numbered r.fault) refl

pub one_way : (sheet texts steps : List ℕ) (r r' : WayAnswer) (a a' : List ℕ)
    → told_way r a ≡ way sheet texts steps → told_way r' a' ≡ way sheet texts steps → (r ≡ r') × (a ≡ a')
one_way sheet texts steps r r' a a' e e' =
    let same = e ∙ sym e' in
    (sym (answer_back r a) ∙ ap answer_from same ∙ answer_back r' a', ap (λ (o : Way). o.steps) same)

pub number_below : (a : WayAnswer) → (way_numbers a).number < 52
number_below (Ok n) = lit< tt
number_below (Err (Stopped StepsTooShort)) = lit< tt
number_below (Err (Stopped (Stop-as.Stopped PastMost))) = lit< tt
number_below (Err (Stopped (Stop-as.Stopped NoRecord))) = lit< tt
number_below (Err (Stopped (Stop-as.Stopped NotAllowed))) = lit< tt
number_below (Err (Stopped (Stop-as.Stopped SideTooLong))) = lit< tt
number_below (Err (Stopped (Stop-as.Stopped Unfinished))) = lit< tt
number_below (Err (Refused r)) = omega (arith, fault_below (fault_of r.fault))
