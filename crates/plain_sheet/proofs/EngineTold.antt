-- From what reading a sheet hands on to the promises of the engine: a refused sheet, and what is answered of a good one's question. The same of how
-- many bytes a sheet needs. Follows from `AnsweredTold`, from the definitions of the engine and from its theorems.
use Prim.Native.Nat.{ℕ}
use mathlib.Core.Path.{◌≡◌, sym, ap, ◌∙◌, subst}
use mathlib.Core.List.{List}
use lib.ListN.{length, replicate}
use Rattle.paper.specs.Sheet.{Reading, read_sheet}
use Rattle.paper_laws.proofs.sheets.Asked.{sheet_good}
use Rattle.paper_plain.specs.Engine.{Engine, engine_of, engine, Needs, needs_of, needs}
use Rattle.paper_plain.specs.EnginePromised.{EnginePromised, NeedsPromised}
use Rattle.paper_plain.proofs.EngineRight.{engine_promised, needs_promised}
use Rattle.base_answers.specs.declared.Refusal.{Refusal}
use Rattle.plain_answer.specs.declared.PlainError.TheVariants.{Refused}
use Rattle.plain_answer.specs.declared.NeededError.TheVariants as Needed
use Rattle.read_sheet.specs.SheetRead.{bodies_of, sheet_of}
use Rattle.read_sheet.specs.declared.Sheet.{Sheet}
use Rattle.read_sheet.proofs.SheetStruct.{sheet_asks, sheet_refused}
use Rattle.std.specs.Prelude.{Ok, Err}
use Rattle.plain_answer.specs.Answered.{Told, Answered, answer_by, needed_by}
use Rattle.plain_answer.specs.EngineNumbers.{told_plain, told_needed}
use Rattle.plain_answer.proofs.AnsweredTold.{answered_told, needed_told}

module _ (sheet : List ℕ) where
  -- a refused sheet leaves the buffer as it was
  pub fault_told : (x : Refusal) → sheet_of (bodies_of sheet) (read_sheet sheet) ≡ Err x
      → (bits : List ℕ) → told_plain (Err (Refused x)) bits ≡ engine sheet bits
  unfolding engine
  fault_told x e bits = rw (sheet_refused sheet x e)

  pub fault_needs : (x : Refusal) → sheet_of (bodies_of sheet) (read_sheet sheet) ≡ Err x → told_needed (Err (Needed.Refused x)) ≡ needs sheet
  unfolding needs
  fault_needs x e = rw (sheet_refused sheet x e)

  module _ (s : Sheet) (e : sheet_of (bodies_of sheet) (read_sheet sheet) ≡ Ok s) where
    pub asked_told : (bits after : List ℕ) → after ≡ replicate (length bits) 0 → {told : Told} → Answered s.question (length bits) told
        → told_plain (answer_by told) after ≡ engine sheet bits
    unfolding engine
    asked_told bits after cleared {told} p =
        let its = sheet_asks sheet s e in
        let q = its.question in
        ap (told_plain (answer_by told)) cleared
        ∙ answered_told q (sheet_good sheet q its.good) (bodies_of sheet) s.question its.is bits p
        ∙ sym (ap (λ (r : Reading). engine_of r bits) its.good)

    pub needs_told : {n : ℕ} {told : Told} → Answered s.question n told → told_needed (needed_by told) ≡ needs sheet
    unfolding needs
    needs_told p =
        let its = sheet_asks sheet s e in
        let q = its.question in
        needed_told q (sheet_good sheet q its.good) (bodies_of sheet) s.question its.is p ∙ sym (ap needs_of its.good)

-- with the whole all that is promised
pub promised : (sheet bits : List ℕ) (e : Engine) → e ≡ engine sheet bits → (e ≡ engine sheet bits) × EnginePromised (read_sheet sheet) bits e
promised sheet bits e is = (is, subst (EnginePromised (read_sheet sheet) bits) (sym is) (engine_promised sheet bits))

pub needs_kept : (sheet : List ℕ) (n : Needs) → n ≡ needs sheet → (n ≡ needs sheet) × NeedsPromised (read_sheet sheet) n
needs_kept sheet n is = (is, subst (NeedsPromised (read_sheet sheet)) (sym is) (needs_promised sheet))
