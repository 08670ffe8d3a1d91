-- What is written fits in the buffer. Follows from the definition of `scripting`.
use Prim.Native.Nat.{ℕ, ◌≤◌}
use mathlib.Core.Path.{◌≡◌, ap}
use mathlib.Core.List.{List}
use native.Mathlib.Omega.{arith}
use lib.Dec.{leb}
use lib.ListN.{length}
use Rattle.std.proofs.Common.{Result, Ok}
use Rattle.paper.specs.Sheet.{Reading, refused, asked, read_sheet}
use Rattle.paper.proofs.base.Tests.{cond_by, leb_true}
use Rattle.paper_script.specs.Script.{script}
use Rattle.paper_script.specs.Scripting.{Scripting, scripting_of, scripting}
use Rattle.script_sheet.specs.WrittenOut.{told_scripted}
use Rattle.script_sheet.specs.declared.ScriptError.{ScriptError}

fits_of : (out : List ℕ) (r : Reading) → (scripting_of r out).written ≤ length out
fits_of out (refused x at) = omega arith
fits_of out (asked q) =
    cond_by (λ (s : Scripting). s.written ≤ length out) (leb (length (script q)) (length out))
    (λ t. leb_true (length (script q)) (length out) t)
    (λ t. omega arith)

fits : (sheet out : List ℕ) → (scripting sheet out).written ≤ length out
unfolding scripting
fits sheet out = fits_of out (read_sheet sheet)

-- an answer that tells so many bytes
pub written_fits :
    (s : Result ℕ ScriptError) (n : ℕ) (sheet out after : List ℕ) → told_scripted s after ≡ scripting sheet out
    → s ≡ Ok n
    → n ≤ length out
written_fits s n sheet out after whole e =
    let same = ap (λ (t : Result ℕ ScriptError). (told_scripted t after).written) e in
    let told = ap (λ (o : Scripting). o.written) whole in
    omega (arith, same, told, fits sheet out)
