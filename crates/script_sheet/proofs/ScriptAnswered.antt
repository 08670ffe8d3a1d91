-- From what reading a sheet and putting its script promise to the answer.
--   sheet_at_fault, no_room, with_room : what is told is what writing the sheet out is by the rules
--   and_promised                       : and so all that is promised of it
use Prim.Native.Nat.{ℕ, ◌≤◌, ◌<◌}
use native.Mathlib.Omega.{arith}
use mathlib.Core.Path.{◌≡◌, sym, ap, subst}
use mathlib.Core.List.{List, [], ◌++◌}
use lib.ListN.{length}
use Rattle.paper.specs.Question.{Question}
use Rattle.paper.specs.Sheet.{asked, read_sheet}
use Rattle.paper.proofs.base.Tests.{le_leb, lt_leb}
use Rattle.paper_script.specs.Script.{script}
use Rattle.paper_script.specs.Scripting.{Scripting, scripting, ScriptPromised}
use Rattle.paper_script.proofs.Length.{script_fits}
use Rattle.paper_script.proofs.ScriptPromised.{promised}
use Rattle.base_put.specs.Counted.{last_place, Counted}
use Rattle.base_put.proofs.Counting.{counted_length, counted_in_front, counted_outside}
use Rattle.std.proofs.Common.{Ok, Err}
use Rattle.base_answers.specs.declared.Refusal.{Refusal}
use Rattle.read_sheet.specs.SheetRead.{bodies_of, sheet_of}
use Rattle.read_sheet.proofs.SheetStruct.{sheet_refused}
use Rattle.script_sheet.specs.WrittenOut.{told_scripted}
use Rattle.script_sheet.specs.declared.ScriptError.TheVariants.{Refused, TooShort}

pub and_promised : (sheet out : List ℕ) (s : Scripting) → s ≡ scripting sheet out → (s ≡ scripting sheet out) × ScriptPromised sheet out s
and_promised sheet out s e = (e, subst (ScriptPromised sheet out) (sym e) (promised sheet out))

module _ (sheet out : List ℕ) where
  pub sheet_at_fault : (x : Refusal) → sheet_of (bodies_of sheet) (read_sheet sheet) ≡ Err x → told_scripted (Err (Refused x)) out ≡ scripting sheet out
  unfolding scripting
  sheet_at_fault x e = rw (sheet_refused sheet x e)

  module _ (q : Question) (asks : read_sheet sheet ≡ asked q) where
    short : length (script q) ≤ last_place
    short = omega (arith, script_fits sheet q asks)

    -- counted into no bytes of the buffer, and put behind them
    pub no_room : {e : List ℕ} {n : ℕ} → Counted [] e 0 n (script q) → length (e ++ out) < n → told_scripted (Err TooShort) (e ++ out) ≡ scripting sheet out
    unfolding scripting
    no_room {e = e} p h =
        let same : e ++ out ≡ out = ap (λ (l : List ℕ). l ++ out) (counted_outside p) in
        rw (same, asks, lt_leb (length (script q)) (length out) (omega (arith, ap length same, counted_length p short)))

    pub with_room : {e after : List ℕ} {n m : ℕ} → Counted [] e 0 n (script q) → n ≤ length (e ++ out) → Counted (e ++ out) after 0 m (script q)
        → told_scripted (Ok m) after ≡ scripting sheet out
    unfolding scripting
    with_room {e = e} {after = after} {m = m} p h w =
        let same : e ++ out ≡ out = ap (λ (l : List ℕ). l ++ out) (counted_outside p) in
        let room : length (script q) ≤ length out = omega (arith, ap length same, counted_length p short) in
        let put : Counted out after 0 m (script q) = subst (λ (d : List ℕ). Counted d after 0 m (script q)) same w in
        rw (asks, le_leb (length (script q)) (length out) room, counted_length put short, counted_in_front put short room)
