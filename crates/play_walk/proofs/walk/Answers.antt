-- `walk` meets its contract. The loop's invariant: from the situation that was come to, the bytes that are left end as all of them do from the first.
use Prim.Native.Nat.{◌+◌, ◌-◌, ◌≤◌}
use native.Mathlib.Omega.{arith}
use mathlib.Core.Path.{◌≡◌, sym, ap, ◌∙◌}
use Rattle.std.specs.Prelude.{Some, Err}
use lib.ListN.{length, drop}
use borrow.Author.Rules.{rules}
use Rattle.paper_steps.specs.Player.{most_steps}
use Rattle.base_codes.specs.Coded.{Coded, denoted}
use Rattle.base_codes.proofs.Denoted.{short_denoted}
use Rattle.play_step.specs.StepCoded.{step_coded}
use Rattle.search_children.specs.Laid.{tables_lent}
use Rattle.play_walk.specs.WalkCoded.{walk_on, walk_from, walked}
use Rattle.play_walk.proofs.Walking.{walked_first, walk_end, walk_past, walk_none, record_within, walk_step, some_record, none_record, gives_made}
use Rattle.paper_steps.specs.StepRecords.{front_of}
use Rattle.play_record.specs.InFront.{record_of}
use Rattle.play_walk.proofs.walk.Goals.{After-step-child}
use Rattle.play_walk.proofs.walk.Goals as goal

pub loop-init : goal.loop-init
loop-init c =
    let a = c.args in
    (search rules, short_denoted a.first (search rules) (search rules) (search rules), walked_first (tables_lent a.tables.now) (denoted a.first) a.steps.now)

pub returns-then-at-steps : goal.returns-then-at-steps
returns-then-at-steps c =
    let a = c.args in
    c.ended.ensures ∙ sym (c.loop.invariant.2 ∙ walk_end (tables_lent a.tables.now) (most_steps - c.loop.counter) (denoted c.loop.s) a.steps.now c.loop.at (omega (arith, c.if-at-steps.true)))

pub returns-then-at-steps-2 : goal.returns-then-at-steps-2
returns-then-at-steps-2 c =
    let a = c.args in
    sym (c.loop.invariant.2 ∙ walk_past (tables_lent a.tables.now) (most_steps - c.loop.counter) (denoted c.loop.s) a.steps.now c.loop.at (omega (arith, c.loop-test.false)) c.if-at-steps-2.true)

pub returns-in_err-record : goal.returns-in_err-record
returns-in_err-record c =
    let a = c.args in
    let told : c.from_residual.result ≡ Err c.in_err-record.field-0.0 = search rules in
    let none = none_record c.front.result c.in_err-record.field-0.0 (sym c.ok_or.ensures.value ∙ c.in_err-record.was) in
    told ∙ ap Err (sym none.1)
    ∙ sym
    (c.loop.invariant.2
    ∙ walk_none (tables_lent a.tables.now) (most_steps - c.loop.counter) (denoted c.loop.s) a.steps.now c.loop.at (omega (arith, c.loop-test.true)) (omega (arith, c.if-at-steps.false)) (sym c.front.ensures ∙ none.0))

-- the step that the record says
its_record : (c : After-step-child) → record_of (front_of c.args.tables.now.characters (drop c.loop.at c.args.steps.now)) ≡ Some c.in_ok-record.record
its_record c = sym c.front.ensures ∙ some_record c.front.result c.in_ok-record.record (sym c.ok_or.ensures.value ∙ c.in_ok-record.was)

stepped : (c : After-step-child) →
    let a = c.args in
    let l = c.loop in
    let r = c.in_ok-record.record in
    let t = tables_lent a.tables.now in
    walked t (denoted a.first) a.steps.now
    ≡ walk_on (λ (n : Coded). walk_from t (most_steps - (l.counter + 1)) n (drop (l.at + r.bytes) a.steps.now)) (step_coded t (denoted l.s) r.step)
stepped c =
    let a = c.args in
    let l = c.loop in
    let less : most_steps - l.counter - 1 ≡ most_steps - (l.counter + 1) = omega arith in
    l.invariant.2
    ∙ rw less at (walk_step (tables_lent a.tables.now) (most_steps - l.counter) (denoted l.s) a.steps.now l.at (omega (arith, c.loop-test.true)) c.in_ok-record.record (its_record c))

within : (c : After-step-child) → c.loop.at + c.in_ok-record.record.bytes ≤ length c.args.steps.now
within c =
    let a = c.args in
    let l = c.loop in
    record_within (tables_lent a.tables.now) (most_steps - l.counter) (denoted l.s) a.steps.now l.at (omega (arith, c.loop-test.true)) c.in_ok-record.record (its_record c)

pub loop-preserved : goal.loop-preserved
loop-preserved c =
    let a = c.args in
    let t = (goal.at.loop-preserved c).After-step-child in
    let m =
    gives_made (tables_lent a.tables.now) (denoted c.loop.s) c.in_ok-record.record.step c.step-child.result c.step-child.ensures c.in_ok-s.s c.loop.invariant.1
    (sym c.made.ensures ∙ c.in_ok-s.was) in
    (within t, m.short, rw m.made_here at (stepped t))
