-- The check on strays, behind a sheet that was read without it.
--   fault_since : where reading refuses the sheet, it does so with the check
--   stray_first : the first stray decides
--   none_stray  : where there is none, the sheet is read as it was without it
-- Follows from what a sheet is read as, whatever the last check is (`LastChecked`): of a question the strays by the codes
-- are the paper's (`Strays`), and the place before a pattern is its record's mark (`PatternsStanding`).
use Prim.Native.Nat.{ℕ, ◌<◌}
use native.Mathlib.Omega.{arith}
use mathlib.Core.Path.{◌≡◌, refl, sym, ap, ◌∙◌}
use mathlib.Core.List.{List, [], ◌∷◌}
use lib.Dec.{ltb}
use lib.ListN.{get_or}
use Rattle.std.specs.Prelude.{Ok, Err, Some, None}
use Rattle.paper.specs.Numbers.{fields}
use Rattle.paper.specs.Pattern.{some_text}
use Rattle.paper.specs.Question.{Question}
use Rattle.paper.specs.Sheet.{asked, has_pattern, strays, no_check, at_stray, stray_check, read_before, read_sheet}
use Rattle.paper_laws.proofs.sheets.Asked.{GoodQuestion, before_good, good_most}
use Rattle.paper_laws.proofs.sheets.LastChecked.{ByLast, fails, ends, by_last, faulty_since}
use Rattle.base_answers.specs.declared.Fault.TheVariants.{StrayPattern}
use Rattle.base_answers.specs.declared.Refusal.{Refusal}
use Rattle.base_answers.proofs.Same.{same_fault}
use Rattle.base_question.specs.Asked.{question_of}
use Rattle.base_question.specs.Bodies.{nowhere, mark_of}
use Rattle.base_question.specs.StraysCoded.{strays_coded, first_of}
use Rattle.base_question.proofs.Strays.{first_is, strays_are}
use Rattle.read_fields.proofs.PatternsStanding.{stands_held, AllMarked, patterns_stand, patterns_marked}
use Rattle.read_sheet.specs.SheetRead.{bodies_of, sheet_of}
use Rattle.read_sheet.specs.declared.Sheet.{Sheet}
use Rattle.read_sheet.proofs.SheetStruct.{AskedBy, reading_asks, reading_refused}
use Rattle.read_sheet.proofs.SheetWhole.{bodies_here}

module _ (s : List ℕ) where
  pub fault_since : (e : Refusal) → sheet_of (bodies_of s) (read_before s) ≡ Err e → Err e ≡ sheet_of (bodies_of s) (read_sheet s)
  fault_since e h = rw (faulty_since s _ _ (reading_refused s (read_before s) e h), same_fault e.fault)

  -- a sheet that was read without it, and the check that decides
  module _ (r : Sheet) (q : Question) (marks : List ℕ) (good : GoodQuestion q) (is : r.question ≡ question_of q (bodies_of s))
      (same : Ok r ≡ sheet_of (bodies_of s) (asked q))
      (marked : AllMarked (bodies_of s) marks)
      (patterned : (f : ℕ) → f < fields → ltb 0 (get_or (bodies_of s) f nowhere).length ≡ has_pattern (get_or q.held f some_text)) where
    strays_here : strays_coded r.question.bodies r.question.left r.question.right ≡ strays q
    strays_here =
        rw is (strays_are q.alphabet.characters (good_most good) q.left q.right good.left good.right (bodies_of s) q.held patterned)

    none_told : (l : List ℕ) → first_of l ≡ None → Ok r ≡ sheet_of (bodies_of s) (at_stray marks q l)
    none_told [] e = same
    none_told (f ∷ fs) e = absurd (cc)

    first_told : (l : List ℕ) (f : ℕ) → strays q ≡ l → first_of l ≡ Some f
        → (f < fields) × (Err (record { fault = StrayPattern; place = mark_of (get_or r.question.bodies f nowhere) }) ≡ sheet_of (bodies_of s) (at_stray marks q l))
    first_told [] f e h = absurd (cc)
    first_told (g ∷ fs) f e h =
        let one : g ≡ f = cc in
        let (known, some) = first_is r.question.bodies r.question.left r.question.right g fs (strays_here ∙ e) in
        let begins = marked g known (rw is at some) in
        let place : mark_of (get_or r.question.bodies g nowhere) ≡ get_or marks g 0 = rw is (omega (arith, begins)) in
        rw (← one) (known, rw place)

  -- what is known of the patterns of a sheet that asks a question
  record Patterned (q : Question) : Type 0 where
    marks : List ℕ
    marked : AllMarked (bodies_of s) marks
    patterned : (f : ℕ) → f < fields → ltb 0 (get_or (bodies_of s) f nowhere).length ≡ has_pattern (get_or q.held f some_text)
    reads : read_sheet s ≡ at_stray marks q (strays q)

  patterned_by : ByLast s → (q : Question) → read_before s ≡ asked q → Patterned q
  unfolding read_sheet
  patterned_by (fails x at h) q e = absurd (cc (h no_check, e))
  patterned_by (ends ed from fs at p front patterns held h) q e =
      let same : p ≡ q = cc (h no_check, e) in
      let here = bodies_here s ed from front in
      record {
        marks = fs.marks;
        marked = rw here (patterns_marked ed s from patterns);
        patterned = λ f k. rw (here, ← same, held) (stands_held (patterns_stand ed s from patterns f k));
        reads = h stray_check ∙ ap (stray_check fs.marks) same;
      }

  module _ (r : Sheet) (before : sheet_of (bodies_of s) (read_before s) ≡ Ok r) where
    asks : AskedBy (read_before s) s r
    asks = reading_asks s (read_before s) r before

    its : Patterned asks.question
    its = patterned_by (by_last s) asks.question asks.good

    same_sheet : Ok r ≡ sheet_of (bodies_of s) (asked asks.question)
    same_sheet = sym before ∙ ap (sheet_of (bodies_of s)) asks.good

    pub stray_first : (f : ℕ) → first_of (strays_coded r.question.bodies r.question.left r.question.right) ≡ Some f
        → (f < fields) × (Err (record { fault = StrayPattern; place = mark_of (get_or r.question.bodies f nowhere) }) ≡ sheet_of (bodies_of s) (read_sheet s))
    stray_first f e =
        let good = before_good s asks.question asks.good in
        let here = strays_here r asks.question its.marks good asks.is same_sheet its.marked its.patterned in
        rw its.reads
        (first_told r asks.question its.marks good asks.is same_sheet its.marked its.patterned (strays asks.question) f refl (rw here at e))

    pub none_stray : first_of (strays_coded r.question.bodies r.question.left r.question.right) ≡ None → Ok r ≡ sheet_of (bodies_of s) (read_sheet s)
    none_stray e =
        let good = before_good s asks.question asks.good in
        let here = strays_here r asks.question its.marks good asks.is same_sheet its.marked its.patterned in
        rw its.reads
        (none_told r asks.question its.marks good asks.is same_sheet its.marked its.patterned (strays asks.question) (rw here at e))
