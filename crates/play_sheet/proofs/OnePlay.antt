-- Any two results that the player's promise allows are equal: the answer and the buffer afterwards. An answer can be told from its numbers. And how
-- large the numbers are.
use Prim.Native.Nat.{ℕ, ◌<◌}
use native.Mathlib.Omega.{arith}
use mathlib.Core.Path.{◌≡◌, refl, sym, ap, ◌∙◌}
use mathlib.Core.Bool.{cond}
use mathlib.Core.List.{List}
use lib.Dec.{eqb, lit<}
use Rattle.paper.specs.Lists.{member}
use Rattle.paper.specs.Buffers.{sheet_numbers}
use Rattle.paper_steps.specs.Player.{Play, play}
use Rattle.base_answers.specs.Faults.{fault_of}
use Rattle.base_answers.proofs.FaultNumbers.{fault_below}
use Rattle.base_answers.proofs.Same.{fault_from, fault_among, fault_numbered}
use Rattle.play_walk.specs.declared.Stop.TheVariants.{PastMost, NoRecord, NotAllowed, SideTooLong, Unfinished}
use Rattle.std.specs.Prelude.{Ok, Err}
use Rattle.play_question.specs.declared.PlayStop.TheVariants.{AnswerTooShort}
use Rattle.play_question.specs.declared.PlayStop.TheVariants as Stop-as
use Rattle.play_sheet.specs.PlayNumbers.{Playing, play_numbers, told_play}
use Rattle.play_sheet.specs.declared.PlayError.TheVariants.{Refused, Stopped}

-- the answer with these numbers
playing_from : Play → Playing
playing_from p =
    cond (member p.number sheet_numbers) (Err (Refused (record { fault = fault_from p.number; place = p.place })))
    (cond (eqb p.number 0) (Ok p.written)
    (cond (eqb p.number 19) (Err (Stopped (Stop-as.Stopped SideTooLong)))
    (cond (eqb p.number 20) (Err (Stopped AnswerTooShort))
    (cond (eqb p.number 47) (Err (Stopped (Stop-as.Stopped NoRecord)))
    (cond (eqb p.number 48) (Err (Stopped (Stop-as.Stopped NotAllowed)))
    (cond (eqb p.number 49) (Err (Stopped (Stop-as.Stopped Unfinished)))
    (Err (Stopped (Stop-as.Stopped PastMost)))))))))

playing_back : (r : Playing) (answer : List ℕ) → playing_from (told_play r answer) ≡ r
unfolding playing_from
playing_back (Ok n) answer = refl
playing_back (Err (Stopped AnswerTooShort)) answer = refl
playing_back (Err (Stopped (Stop-as.Stopped PastMost))) answer = refl
playing_back (Err (Stopped (Stop-as.Stopped NoRecord))) answer = refl
playing_back (Err (Stopped (Stop-as.Stopped NotAllowed))) answer = refl
playing_back (Err (Stopped (Stop-as.Stopped SideTooLong))) answer = refl
playing_back (Err (Stopped (Stop-as.Stopped Unfinished))) answer = refl
playing_back (Err (Refused r)) answer = rw (fault_among r.fault, fault_numbered r.fault) refl

pub one_play : (sheet steps answer : List ℕ) (r r' : Playing) (a a' : List ℕ)
    → told_play r a ≡ play sheet steps answer → told_play r' a' ≡ play sheet steps answer → (r ≡ r') × (a ≡ a')
one_play sheet steps answer r r' a a' e e' =
    let same = e ∙ sym e' in
    (sym (playing_back r a) ∙ ap playing_from same ∙ playing_back r' a', ap (λ (p : Play). p.answer) same)

pub number_below : (p : Playing) → (play_numbers p).number < 51
number_below (Ok n) = lit< tt
number_below (Err (Stopped AnswerTooShort)) = lit< tt
number_below (Err (Stopped (Stop-as.Stopped PastMost))) = lit< tt
number_below (Err (Stopped (Stop-as.Stopped NoRecord))) = lit< tt
number_below (Err (Stopped (Stop-as.Stopped NotAllowed))) = lit< tt
number_below (Err (Stopped (Stop-as.Stopped SideTooLong))) = lit< tt
number_below (Err (Stopped (Stop-as.Stopped Unfinished))) = lit< tt
number_below (Err (Refused r)) = omega (arith, fault_below (fault_of r.fault))
