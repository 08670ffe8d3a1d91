-- The entry's promises, from the whole: what reading a refused sheet tells, what is settled of a good one's question, and what is promised of every
-- decision. Follows from the definition of the decision, from `settled_told` and from `sheet_decided`.
use Prim.Native.Nat.{ℕ}
use native.Mathlib.Omega.{arith}
use mathlib.Core.Path.{◌≡◌, sym, ap, ◌∙◌, subst}
use mathlib.Core.Bool.{Bool}
use mathlib.Core.List.{List}
use lib.ListN.{length, replicate}
use Rattle.std.specs.Prelude.{Ok, Err}
use Rattle.paper.specs.Question as Paper
use Rattle.paper.specs.Sheet.{Reading, asked, read_sheet}
use Rattle.paper_laws.proofs.sheets.Asked.{sheet_good}
use Rattle.paper_decide.specs.Deciding.{Decision, decision_of, decision}
use Rattle.paper_decide.specs.DecidePromised.{Decided}
use Rattle.paper_decide.proofs.Decided.{sheet_decided}
use Rattle.read_sheet.specs.SheetRead.{bodies_of, sheet_of}
use Rattle.read_sheet.specs.declared.Sheet.{Sheet}
use Rattle.read_sheet.proofs.SheetStruct.{sheet_asks, sheet_refused}
use Rattle.base_answers.specs.declared.Refusal.{Refusal}
use Rattle.paper_plain.specs.Engine.{clashes_apart}
use Rattle.base_question.specs.declared.Question.{Question}
use Rattle.plain_question.specs.Reached.{Meets, Says}
use Rattle.plain_question.proofs.Standings.{clash_said}
use Rattle.read_sheet.proofs.SheetPatterns.{sheet_stands}
use Rattle.decide_letters.proofs.Standing.{says_standing}
use Rattle.decide_question.specs.Settling.{settled_coded, told_settled}
use Rattle.decide_question.specs.declared.Settled.{Settled}
use Rattle.decide_question.proofs.SettledTold.{Written, settled_told}
use Rattle.decide_sheet.specs.Decision.{told_decision}

module _ (sheet : List ℕ) where
  -- a refused sheet changes no buffer, and no search is made
  pub refused_told : (x : Refusal) → sheet_of (bodies_of sheet) (read_sheet sheet) ≡ Err x
      → (work answer : List ℕ) → told_decision (record { answer = Err x; search = 0 }) answer work ≡ decision sheet work answer
  unfolding decision
  refused_told x e work answer = rw (sheet_refused sheet x e)

  -- its patterns stand in the sheet
  written : (q : Paper.Question) → read_sheet sheet ≡ asked q → Written q (bodies_of sheet) sheet sheet
  written q is =
      record {
        firsts = λ f k. says_standing (sheet_stands sheet q is f (omega arith));
        seconds = λ f _ k. says_standing (sheet_stands sheet q is f k);
      }

  -- what is settled of the question of a good sheet is the whole
  pub asked_told : (s : Sheet) → sheet_of (bodies_of sheet) (read_sheet sheet) ≡ Ok s → (work answer after worked : List ℕ) (u : Settled)
      → record {
        settled : (m : Bool) → Says m (Meets s.question)
            → record { settled = u; buffer = after } ≡ settled_coded s.question m sheet sheet (length work) answer;
        work : worked ≡ replicate (length work) 0;
      }
      → told_decision (record { answer = Ok u.ended; search = u.search }) after worked ≡ decision sheet work answer
  unfolding decision
  asked_told s e work answer after worked u p =
      let a = sheet_asks sheet s e in
      let q = a.question in
      let good = sheet_good sheet q a.good in
      let says = subst (λ (x : Question). Says (clashes_apart q) (Meets x)) (sym a.is) (clash_said q good (bodies_of sheet)) in
      (λ i. told_settled (p.settled (clashes_apart q) says i) (p.work i))
      ∙ settled_told q good (bodies_of sheet) sheet sheet (written q a.good) s.question a.is work answer
      ∙ sym (ap (λ (x : Reading). decision_of x work answer) a.good)

pub promised : (sheet work answer : List ℕ) (d : Decision) → d ≡ decision sheet work answer
    → record { whole : d ≡ decision sheet work answer; decided : Decided (read_sheet sheet) work answer d }
promised sheet work answer d e =
    record { whole = e; decided = subst (Decided (read_sheet sheet) work answer) (sym e) (sheet_decided sheet work answer) }
