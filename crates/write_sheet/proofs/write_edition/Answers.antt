-- `write_edition` meets its contract, by what laying the sheet out meets and by the room (`SheetAnswered`).
use mathlib.Core.Path.{◌≡◌, ap, ◌∙◌, subst}
use lib.ListN.{length}
use Prim.Native.Nat.{ℕ, ◌<◌, ◌≤◌}
use mathlib.Core.List.{List, ◌++◌}
use Rattle.std.proofs.Common.{Ok, Err}
use Rattle.std.proofs.lemmas.Result.{err_from_is_err_and}
use Rattle.write_records.specs.RecordPut.{Lays}
use Rattle.paper.specs.Saying.{ToSay}
use Rattle.paper_write.specs.Laying.{laying}
use Rattle.write_sheet.specs.SheetWritten.{given, told_written}
use Rattle.write_sheet.specs.declared.WriteError.TheVariants.{Refused, TooShort}
use Rattle.write_sheet.proofs.SheetAnswered.{none_put, told_at_fault, told_no_room, told_put, no_fault, and_promised}
use Rattle.write_sheet.proofs.write_edition.Goals.{After-put_sheet}
use Rattle.write_sheet.proofs.write_edition.Goals as goal

-- what is to be said
abbrev its : After-put_sheet → ToSay
its c = let a = c.args in given a.edition a.patterns.now a.lengths.now a.left.now a.right.now

-- measuring changes nothing
same_out : (c : After-put_sheet) → c.put_sheet.new.out ++ c.args.out.now ≡ c.args.out.now
same_out c = none_put c.put_sheet.new.out c.put_sheet.auto.out c.args.out.now

pub returns-in_err-bytes : goal.returns-in_err-bytes
returns-in_err-bytes c =
    let p = (goal.at.returns-in_err-bytes c).After-put_sheet in
    let out = c.args.out.now in
    let r = err_from_is_err_and c.from_residual.result c.from_residual.ensures.1 in
    let h =
    and_promised (its p) out _
    (ap (told_written (Err (Refused c.in_err-bytes.field-0.0))) (same_out p) ∙ told_at_fault (its p) out _ c.in_err-bytes.ensures) in
    record { whole = rw (r.1, r.2) h.0; promised = rw (r.1, r.2) h.1 }

pub returns-then-out-bytes : goal.returns-then-out-bytes
returns-then-out-bytes c =
    let p = (goal.at.returns-then-out-bytes c).After-put_sheet in
    let out = c.args.out.now in
    let h =
    and_promised (its p) out _
    (ap (told_written (Err TooShort)) (same_out p)
    ∙ told_no_room (its p) out c.in_ok-bytes.ensures
    (subst (λ (l : List ℕ). length l < c.in_ok-bytes.bytes) (same_out p) c.if-out-bytes.true)) in
    record { whole = h.0; promised = h.1 }

pub returns-in_err-put_sheet : goal.returns-in_err-put_sheet
returns-in_err-put_sheet c =
    absurd (no_fault (its (goal.at.returns-in_err-put_sheet c).After-put_sheet) c.args.out.now c.in_ok-bytes.ensures c.in_err-put_sheet.ensures)

pub returns : goal.returns
returns c =
    let p = (goal.at.returns c).After-put_sheet in
    let out = c.args.out.now in
    let h =
    and_promised (its p) out _
    (told_put (its p) out c.in_ok-bytes.ensures
    (subst (λ (l : List ℕ). c.in_ok-bytes.bytes ≤ length l) (same_out p) c.if-out-bytes.false)
    (subst (λ (l : List ℕ). Lays l c.put_sheet-2.new.out 0 (Ok c.in_ok-put_sheet.field-0) (laying (its p))) (same_out p) c.in_ok-put_sheet.ensures)) in
    record { whole = h.0; promised = h.1 }
