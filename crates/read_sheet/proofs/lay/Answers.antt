-- `lay` meets its contract, from what the parts of the sheet are (`SheetWhole`). Assumes nothing.
use Prim.Native.Nat.{ℕ}
use mathlib.Core.Path.{◌≡◌, sym, ap, ◌∙◌, refl}
use mathlib.Core.List.{List}
use Rattle.std.specs.Prelude.{Err}
use Rattle.std.proofs.lemmas.Result.{err_from_is_err_and}
use Rattle.base_answers.specs.declared.Refusal.{Refusal}
use Rattle.base_answers.specs.Faults.{fault_of}
use Rattle.base_answers.proofs.Same.{same_fault}
use Rattle.paper.specs.Sheet.{refused, read_before}
use Rattle.read_side.proofs.SideStruct.{side_fault, side_stands}
use Rattle.read_fields.proofs.FieldsStruct.{fields_fault, fields_stand}
use Rattle.read_sheet.specs.SheetRead.{bodies_of, sheet_of}
use Rattle.read_sheet.proofs.FrontStruct.{front_stands}
use Rattle.read_sheet.proofs.FrontStruct as Front
use Rattle.read_sheet.proofs.SheetWhole.{bodies_here, front_fault, patterns_fault, left_fault, right_fault, byte_left, whole}
use Rattle.read_sheet.proofs.lay.Goals as goal

-- a part of the sheet is refused
refuses : (s : List ℕ) (x : Refusal) → read_before s ≡ refused (fault_of x.fault) x.place → Err x ≡ sheet_of (bodies_of s) (read_before s)
refuses s x e = rw (e, same_fault x.fault)

pub returns-in_err-front : goal.returns-in_err-front
returns-in_err-front c =
    let p = err_from_is_err_and c.from_residual.result c.from_residual.ensures.1 in
    rw (p.1, p.2) (refuses _ _ (front_fault _ _ _ (Front.front_fault _ _ (sym c.in_err-front.ensures))))

pub returns-in_err-patterns : goal.returns-in_err-patterns
returns-in_err-patterns c =
    let d = front_stands _ _ (sym c.in_ok-front.ensures) in
    let p = err_from_is_err_and c.from_residual-in_err-patterns.result c.from_residual-in_err-patterns.ensures.1 in
    rw (p.1, p.2) (refuses _ _ (patterns_fault _ _ _ d _ _ (fields_fault _ _ _ (sym c.in_err-patterns.ensures.said))))

pub returns-in_err-at_left : goal.returns-in_err-at_left
returns-in_err-at_left c =
    let d = front_stands _ _ (sym c.in_ok-front.ensures) in
    let q = fields_stand _ _ _ (sym c.in_ok-patterns.ensures.said) in
    let p = err_from_is_err_and c.from_residual-in_err-at_left.result c.from_residual-in_err-at_left.ensures.1 in
    rw (p.1, p.2) (refuses _ _ (left_fault _ _ _ d q.fields _ q.reads _ _ (side_fault _ _ (sym c.in_err-at_left.ensures))))

pub returns-in_err-at_right : goal.returns-in_err-at_right
returns-in_err-at_right c =
    let d = front_stands _ _ (sym c.in_ok-front.ensures) in
    let q = fields_stand _ _ _ (sym c.in_ok-patterns.ensures.said) in
    let l = side_stands _ _ (sym c.in_ok-at_left.ensures) in
    let p = err_from_is_err_and c.from_residual-in_err-at_right.result c.from_residual-in_err-at_right.ensures.1 in
    rw (p.1, p.2) (refuses _ _ (right_fault _ _ _ d q.fields _ q.reads l.side _ l.reads _ _ (side_fault _ _ (sym c.in_err-at_right.ensures))))

pub returns-then-end-s : goal.returns-then-end-s
returns-then-end-s c =
    let d = front_stands _ _ (sym c.in_ok-front.ensures) in
    let q = fields_stand _ _ _ (sym c.in_ok-patterns.ensures.said) in
    let l = side_stands _ _ (sym c.in_ok-at_left.ensures) in
    let r = side_stands _ _ (sym c.in_ok-at_right.ensures) in
    sym (ap (sheet_of _) (byte_left _ _ _ d q.fields _ q.reads l.side _ l.reads r.side _ r.reads c.if-end-s.true))

pub returns : goal.returns
returns c =
    let d = front_stands _ _ (sym c.in_ok-front.ensures) in
    let q = fields_stand _ _ _ (sym c.in_ok-patterns.ensures.said) in
    let l = side_stands _ _ (sym c.in_ok-at_left.ensures) in
    let r = side_stands _ _ (sym c.in_ok-at_right.ensures) in
    rw c.alphabet_of-question.ensures
    (whole _ _ _ d q.fields _ q.reads l.side _ l.reads r.side _ r.reads c.if-end-s.false _ refl _ _ _ _ l.codes r.codes
    (c.in_ok-patterns.ensures.tables ∙ q.tables) _ (q.bodies_are ∙ sym (bodies_here _ _ _ d)))
