-- What is promised of the engine and of how many bytes a sheet needs leaves nothing open: any two results that the contract allows are equal.
--   one_engine : told_plain a bits ≡ e → told_plain a' bits' ≡ e → (a ≡ a') × (bits ≡ bits')
--   one_needed : told_needed n ≡ e → told_needed n' ≡ e → n ≡ n'
-- An answer is found again from what it tells.
use Prim.Native.Nat.{ℕ}
use mathlib.Core.Path.{◌≡◌, refl, sym, ap, ◌∙◌}
use mathlib.Core.Bool.{cond}
use mathlib.Core.List.{List}
use lib.Dec.{eqb}
use Rattle.std.proofs.Common.{Ok, Err}
use Rattle.paper.specs.Lists.{member}
use Rattle.paper.specs.Buffers.{sheet_numbers}
use Rattle.paper_plain.specs.Engine.{Engine, Needs}
use Rattle.base_answers.proofs.Same.{fault_from, fault_among, fault_numbered}
use Rattle.plain_answer.specs.Answered.{PlainAnswer, Needed}
use Rattle.plain_answer.specs.EngineNumbers.{told_plain, told_needed}
use Rattle.plain_answer.specs.declared.Verdict.TheVariants.{Clash, NoClash}
use Rattle.plain_answer.specs.declared.PlainError.TheVariants as Plain
use Rattle.plain_answer.specs.declared.NeededError.TheVariants.{StandsTwice, Refused}

answer_from : Engine → PlainAnswer
answer_from e =
    cond (member e.number sheet_numbers) (Err (Plain.Refused (record { fault = fault_from e.number; place = e.place })))
    (cond (eqb e.number 0) (Ok Clash)
    (cond (eqb e.number 1) (Ok NoClash)
    (cond (eqb e.number 42) (Err Plain.StandsTwice) (Err Plain.BitsTooFew))))

answer_back : (a : PlainAnswer) (bits : List ℕ) → answer_from (told_plain a bits) ≡ a
unfolding answer_from
answer_back (Ok Clash) bits = refl
answer_back (Ok NoClash) bits = refl
answer_back (Err Plain.StandsTwice) bits = refl
answer_back (Err Plain.BitsTooFew) bits = refl
answer_back (Err (Plain.Refused r)) bits = rw (fault_among r.fault, fault_numbered r.fault) refl

pub one_engine : (e : Engine) (a a' : PlainAnswer) (bits bits' : List ℕ) → told_plain a bits ≡ e → told_plain a' bits' ≡ e
    → (a ≡ a') × (bits ≡ bits')
one_engine e a a' bits bits' h h' =
    let same = h ∙ sym h' in
    (sym (answer_back a bits) ∙ ap answer_from same ∙ answer_back a' bits', ap (λ (x : Engine). x.bits) same)

needed_from : Needs → Needed
needed_from n =
    cond (member n.number sheet_numbers) (Err (Refused (record { fault = fault_from n.number; place = n.place })))
    (cond (eqb n.number 0) (Ok n.bytes) (Err StandsTwice))

needed_back : (n : Needed) → needed_from (told_needed n) ≡ n
unfolding needed_from
needed_back (Ok bytes) = refl
needed_back (Err StandsTwice) = refl
needed_back (Err (Refused r)) = rw (fault_among r.fault, fault_numbered r.fault) refl

pub one_needed : (e : Needs) (n n' : Needed) → told_needed n ≡ e → told_needed n' ≡ e → n ≡ n'
one_needed e n n' h h' = sym (needed_back n) ∙ ap needed_from (h ∙ sym h') ∙ needed_back n'
