-- What is promised of writing a sheet out as a script: of every sheet and every buffer.
--   promised : ScriptPromised sheet out (scripting sheet out)
-- Follows from `means`, `same_question` and `script_fits`, by what reading the sheet gives.
use Prim.Native.Nat.{ℕ, ◌≤◌}
use native.Mathlib.Omega.{arith}
use mathlib.Core.Path.{◌≡◌, refl, sym, ap, ◌∙◌, subst}
use mathlib.Core.Logic.{◌↔◌}
use mathlib.Core.List.{List}
use lib.Dec.{leb}
use lib.ListN.{length, take, drop, length-append, length-drop}
use lib.Seq.{take-append_seam, drop-append_seam}
use Rattle.paper.specs.Equation.{Texts}
use Rattle.paper.specs.Question.{Question, Solution}
use Rattle.paper.specs.Sheet.{Fault, cut_short, wrong_mark, wrong_field, wrong_length, not_one_pattern, too_many_leaves, wrong_token, wrong_edition, stray_pattern, fault_number}
use Rattle.paper.specs.Sheet.{Reading, refused, asked, read_sheet}
use Rattle.paper.proofs.base.Tests.{cond_by, leb_true, leb_false}
use Rattle.paper_laws.proofs.sheets.Asked.{GoodQuestion, sheet_good}
use Rattle.paper_laws.proofs.sheets.Rows.{fault_above}
use Rattle.paper_script.specs.Reader.{read_script}
use Rattle.paper_script.specs.Script.{script, longest_script}
use Rattle.paper_script.specs.Means.{Means, Assignment, Satisfies}
use Rattle.paper_script.specs.Scripting.{scripting_of, scripting, ScriptPromised}
use Rattle.paper_script.proofs.ScriptMeans.{means}
use Rattle.paper_script.proofs.SameQuestion.{same_question}
use Rattle.paper_script.proofs.Length.{script_fits}

no_40 : (x : Fault) → fault_number x ≡ 40 → ⊥
no_40 cut_short e = omega arith
no_40 wrong_mark e = omega arith
no_40 wrong_field e = omega arith
no_40 wrong_length e = omega arith
no_40 not_one_pattern e = omega arith
no_40 too_many_leaves e = omega arith
no_40 wrong_token e = omega arith
no_40 wrong_edition e = omega arith
no_40 stray_pattern e = omega arith

no_0 : (x : Fault) → fault_number x ≡ 0 → ⊥
no_0 x e = omega (arith, fault_above x)

abbrev question_of : Question → Reading → Question
question_of p (refused x at) = p
question_of p (asked q) = q

asked_same : (p q : Question) → asked p ≡ asked q → p ≡ q
asked_same p q e = ap (question_of p) e

-- what is so of the script of each question that the sheet asks
by_question : (sheet : List ℕ) (q : Question) → read_sheet sheet ≡ asked q → (P : Question → List ℕ → Type 0)
    → ((x : Question) → GoodQuestion x → P x (script x)) → (p : Question) → read_sheet sheet ≡ asked p → P p (script q)
by_question sheet q e P all p h = subst (λ (x : Question). P p (script x)) (asked_same p q (sym h ∙ e)) (all p (sheet_good sheet p h))

abbrev SameAnswer : Question → List ℕ → Type 0
SameAnswer q l = ((texts : Texts) × Solution q texts) ↔ ((a : Assignment) × Satisfies a (read_script l))

promised_of : (sheet out : List ℕ) (r : Reading) → read_sheet sheet ≡ r → ScriptPromised sheet out (scripting_of r out)
promised_of sheet out (refused x at) e =
    record {
      means = λ q h z. absurd (no_0 x z);
      same_answer = λ q h z. absurd (no_0 x z);
      unchanged = λ n. refl;
      rest = refl;
      fits = omega arith;
      same_length = refl;
      enough = λ h z. no_40 x z;
    }
promised_of sheet out (asked q) e =
    cond_by (ScriptPromised sheet out) (leb (length (script q)) (length out))
    (λ t. record {
      means = λ p h z. rw (take-append_seam (script q) _) (by_question sheet q e (λ (x : Question) (l : List ℕ). Means x (read_script l)) means p h);
      same_answer = λ p h z. rw (take-append_seam (script q) _) (by_question sheet q e SameAnswer same_question p h);
      unchanged = λ n. absurd (n refl);
      rest = drop-append_seam (script q) (drop (length (script q)) out);
      fits = leb_true (length (script q)) (length out) t;
      same_length =
          let room = leb_true (length (script q)) (length out) t in
          omega (arith, length-append (script q) (drop (length (script q)) out), length-drop (length (script q)) out);
      enough = λ h (z : 0 ≡ 40). omega arith;
    })
    (λ t. record {
      means = λ p h (z : 40 ≡ 0). absurd (omega arith);
      same_answer = λ p h (z : 40 ≡ 0). absurd (omega arith);
      unchanged = λ n. refl;
      rest = refl;
      fits = omega arith;
      same_length = refl;
      enough = λ (h : longest_script ≤ length out) z. let short = leb_false (length (script q)) (length out) t in omega (arith, script_fits sheet q e);
    })

pub promised : (sheet out : List ℕ) → ScriptPromised sheet out (scripting sheet out)
unfolding scripting
promised sheet out = promised_of sheet out (read_sheet sheet) refl
