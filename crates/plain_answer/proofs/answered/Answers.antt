-- `answered` meets its contract: one way through for each answer.
use Prim.Native.Nat.{ℕ, ◌+◌, ◌/◌, ◌≤◌, ◌<◌}
use mathlib.Core.Path.{◌≡◌, sym, ◌∙◌, subst}
use mathlib.Core.Bool.{Bool, true, false}
use Rattle.std.proofs.Common.{Option, Some, None}
use Rattle.base_question.specs.declared.Question.{Question}
use Rattle.plain_count.specs.StandingsCoded.{bits_coded}
use Rattle.plain_question.specs.Reached.{Meets, Says}
use Rattle.plain_answer.specs.Answered.{answering_of, bytes_of, Fit, Answered, stands_twice, bits_too_few, clash, no_clash}
use Rattle.plain_answer.specs.declared.Verdict.{Verdict}
use Rattle.plain_answer.proofs.answered.Goals.{After-clashes, Else-bytes-needed}
use Rattle.plain_answer.proofs.answered.Goals as goal

-- what is told with the bytes that the bits n need
module _ (s : Question) (lent n : ℕ) (is : n ≡ bits_coded s) where
  told : (v : Option Verdict) → Answered s lent (answering_of v (bytes_of s)) → Answered s lent (answering_of v ((n + 7) / 8))
  told v h = subst (λ (k : ℕ). Answered s lent (answering_of v ((k + 7) / 8))) (sym is) h

  few : lent < (n + 7) / 8 → lent < bytes_of s
  few h = subst (λ (k : ℕ). lent < (k + 7) / 8) is h

  enough : (n + 7) / 8 ≤ lent → bytes_of s ≤ lent
  enough h = subst (λ (k : ℕ). (k + 7) / 8 ≤ lent) is h

pub returns-then-stands_twice : goal.returns-then-stands_twice
returns-then-stands_twice c = stands_twice (sym c.stands_twice.ensures ∙ c.if-stands_twice.true)

pub returns-then-bytes-needed : goal.returns-then-bytes-needed
returns-then-bytes-needed c =
    let a = c.args in
    let n = c.bits_of.result in
    let is = c.bits_of.ensures.0 in
    told a.question a.bytes n is None
    (bits_too_few (sym c.stands_twice.ensures ∙ c.if-stands_twice.false) (few a.question a.bytes n is c.if-bytes-needed.true))

-- no field stands twice, and the bits fit
fit : (c : Else-bytes-needed) →
    let a = c.args in Fit a.question a.bytes
fit c =
    let a = c.args in
    record {
      once = sym c.stands_twice.ensures ∙ c.if-stands_twice.false;
      fit = enough a.question a.bytes c.bits_of.result c.bits_of.ensures.0 c.if-bytes-needed.false;
    }

-- what the engine says
says : (c : After-clashes) →
    let a = c.args in
    (b : Bool) → c.clashes.result ≡ b → Says b (Meets a.question)
says c b e =
    let a = c.args in
    subst (λ (x : Bool). Says x (Meets a.question)) e c.clashes.ensures

pub returns-then-clashes : goal.returns-then-clashes
returns-then-clashes c =
    let a = c.args in
    told a.question a.bytes c.bits_of.result c.bits_of.ensures.0 (Some _)
    (clash (fit (goal.at.returns-then-clashes c).Else-bytes-needed) (says (goal.at.returns-then-clashes c).After-clashes true c.if-clashes.true))

pub returns-else-clashes : goal.returns-else-clashes
returns-else-clashes c =
    let a = c.args in
    told a.question a.bytes c.bits_of.result c.bits_of.ensures.0 (Some _)
    (no_clash (fit (goal.at.returns-else-clashes c).Else-bytes-needed) (says (goal.at.returns-else-clashes c).After-clashes false c.if-clashes.false))
