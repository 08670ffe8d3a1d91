-- `put_text` meets its contract. The loop's invariant: some of the text was put, and the rest of it is what the bytes that are left put from the
-- situation that was come to.
use Prim.Native.Nat.{ℕ, ◌+◌, ◌-◌, ◌≤◌, ◌<◌}
use native.Mathlib.Omega.{arith}
use mathlib.Core.Path.{◌≡◌, refl, sym, subst, ◌∙◌}
use mathlib.Core.List.{List, ◌++◌}
use lib.ListN.{length, drop}
use borrow.Author.Rules.{rules}
use Rattle.paper_steps.specs.Player.{most_steps}
use Rattle.base_codes.specs.Coded.{Coded, denoted}
use Rattle.base_codes.proofs.Denoted.{short_denoted}
use Rattle.search_children.specs.Children.{given_coded}
use Rattle.play_step.specs.StepCoded.{step_coded}
use Rattle.search_children.specs.Laid.{tables_lent}
use Rattle.play_walk.specs.WalkCoded.{text_on, text_from, text_walked}
use Rattle.play_walk.proofs.Walking.{text_first, record_within, text_step, is_made}
use Rattle.play_walk.proofs.Texts.{Underway, none_yet, some_more}
use Rattle.play_walk.proofs.put_text.Goals.{After-step-child}
use Rattle.play_walk.proofs.put_text.Goals as goal

pub loop-init : goal.loop-init
loop-init c =
    let a = c.args in (
      search rules,
      refl,
      short_denoted a.first (search rules) (search rules) (search rules),
      none_yet (text_first (tables_lent a.tables.now) a.f (denoted a.first) a.steps.now),
    )

some_left : {n : ℕ} → n < most_steps → 0 < most_steps - n
some_left h = omega arith

-- what is left to put, by the step that the record says
stepped : (c : After-step-child) →
    let a = c.args in
    let l = c.loop in
    let r = c.in-Some.record in
    let t = tables_lent a.tables.now in
    let s = denoted l.s in
    text_from t a.f (most_steps - l.counter) s (drop l.i a.steps.now)
    ≡ text_on (given_coded a.f s r.step) (λ (n : Coded). text_from t a.f (most_steps - (l.counter + 1)) n (drop (l.i + r.bytes) a.steps.now)) (step_coded t s r.step)
stepped c =
    let a = c.args in
    let l = c.loop in
    let less : most_steps - l.counter - 1 ≡ most_steps - (l.counter + 1) = omega arith in
    rw less at (text_step (tables_lent a.tables.now) (most_steps - l.counter) (denoted l.s) a.steps.now l.i (omega (arith, c.loop-test.true)) c.in-Some.record (sym c.front.ensures ∙ c.in-Some.is) a.f)

within : (c : After-step-child) → c.loop.i + c.in-Some.record.bytes ≤ length c.args.steps.now
within c =
    let a = c.args in
    let l = c.loop in
    record_within (tables_lent a.tables.now) (most_steps - l.counter) (denoted l.s) a.steps.now l.i (omega (arith, c.loop-test.true)) c.in-Some.record (sym c.front.ensures ∙ c.in-Some.is)

pub loop-preserved : goal.loop-preserved
loop-preserved c =
    let a = c.args in
    let l = c.loop in
    let r = c.in-Some.record in
    let t = tables_lent a.tables.now in
    let at = (goal.at.loop-preserved c).After-step-child in
    let m = is_made t (denoted l.s) r.step c.step-child.result c.step-child.ensures c.in-Made.next l.invariant.2 c.in-Made.is in
    let rest = text_from t a.f (most_steps - (l.counter + 1)) (denoted c.in-Made.next) (drop (l.i + r.bytes) a.steps.now) in
    let now : Underway (text_walked t a.f (denoted a.first) a.steps.now) (given_coded a.f (denoted l.s) r.step ++ rest) a.out.now l.out a.at l.end =
    subst (λ (x : List ℕ). Underway (text_walked t a.f (denoted a.first) a.steps.now) x a.out.now l.out a.at l.end) (rw m.made_here at (stepped at)) l.invariant.3 in (
      within at,
      c.put_given-end.auto.out ∙ l.invariant.1,
      m.short,
      some_more (given_coded a.f (denoted l.s) r.step) rest now c.put_given-end.ensures,
    )
