-- Writing a sheet out as a script (request K4): from a sheet and an output buffer, any lists of bytes, to the number, the place, the bytes written
-- and the buffer afterwards; and what is promised of it.
use Rattle.std.specs.Prelude.{ℕ, ◌≤◌, ◌≡◌, ◌↔◌, cond, List, ◌++◌, leb, length, take, drop}
use Rattle.paper.specs.Equation.{Texts}
use Rattle.paper.specs.Question.{Question, Solution}
use Rattle.paper.specs.Sheet.{fault_number, Reading, refused, asked, read_sheet}
use Rattle.paper_script.specs.Reader.{read_script}
use Rattle.paper_script.specs.Script.{script, longest_script}
use Rattle.paper_script.specs.Means.{Means, Assignment, Satisfies}

pub record Scripting : Type 0 where
  pub number : ℕ
  pub place : ℕ
  pub written : ℕ
  pub script : List ℕ

abbrev pub scripting_told : ℕ → ℕ → ℕ → List ℕ → Scripting
scripting_told number place written out = record { number = number; place = place; written = written; script = out }

-- "Refusals: the sheet's own, then 40 if the output buffer is too short."
abbrev pub scripting_of : Reading → List ℕ → Scripting
scripting_of (refused x at) out = scripting_told (fault_number x) at 0 out
scripting_of (asked q) out =
    cond (leb (length (script q)) (length out))
    (scripting_told 0 0 (length (script q)) (script q ++ drop (length (script q)) out))
    (scripting_told 40 0 0 out)

unfoldable pub scripting : List ℕ → List ℕ → Scripting
scripting sheet out = scripting_of (read_sheet sheet) out

-- What is promised: a script that was written means the sheet's question, so that some texts satisfy it exactly if some texts solve the question;
-- where none was written no byte is changed, and otherwise none behind it; a buffer of so many bytes is never too short.
pub record ScriptPromised (sheet out : List ℕ) (s : Scripting) : Type 0 where
  pub means : (q : Question) → read_sheet sheet ≡ asked q → s.number ≡ 0 → Means q (read_script (take s.written s.script))
  pub same_answer : (q : Question) → read_sheet sheet ≡ asked q → s.number ≡ 0
      → ((texts : Texts) × Solution q texts) ↔ ((a : Assignment) × Satisfies a (read_script (take s.written s.script)))
  pub unchanged : (s.number ≡ 0 → ⊥) → s.script ≡ out
  pub rest : drop s.written s.script ≡ drop s.written out
  pub fits : s.written ≤ length out
  pub same_length : length s.script ≡ length out
  pub enough : longest_script ≤ length out → s.number ≡ 40 → ⊥
