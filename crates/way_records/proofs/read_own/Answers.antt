-- `read_own` meets its contract. The loop's invariant: the texts that were read, and the records of the fields that are still to come (`Reading`).
use Rattle.std.proofs.Common.{ℕ, ◌≡◌, ◌+◌, sym, ap, ◌∙◌, rules}
use Rattle.std.specs.Prelude.{Some}
use Rattle.way_records.specs.Spans.{read_on}
use Rattle.way_records.proofs.Reading.{todo_from, read_first, read_more, read_all, todo_on, todo_none, own_first}
use Rattle.way_records.proofs.read_own.Goals.{After-with_field}
use Rattle.way_records.proofs.read_own.Goals as goal

pub loop-f-init : goal.loop-f-init
loop-f-init c =
    let a = c.args in
    (own_first a.texts.now, λ x. read_first a.characters x a.texts.now a.sets)

-- with the record of one field more
read_with : (c : After-with_field) (x : ℕ) →
    let a = c.args in
    read_on a.characters x a.texts.now (Some c.loop-f.s) (todo_from a.sets c.loop-f.f) ≡ read_on a.characters x a.texts.now c.with_field.result (todo_from a.sets (c.loop-f.f + 1))
read_with c x =
    let a = c.args in
    ap (read_on a.characters x a.texts.now (Some c.loop-f.s)) (todo_on a.sets c.loop-f.f c.loop-f-test.true)
    ∙ c.with_field.ensures.by_index x (todo_from a.sets (c.loop-f.f + 1))

pub returns-in_err-s-clause-by_index : goal.returns-in_err-s-clause-by_index
returns-in_err-s-clause-by_index c =
    let h = read_with (goal.at.returns-in_err-s-clause-by_index c).After-with_field in
    rw c.from_residual.ensures (λ x. sym (c.loop-f.invariant.1 x ∙ rw c.in_err-s.was at (h x)))

pub loop-f-preserved : goal.loop-f-preserved
loop-f-preserved c =
    let h = read_with (goal.at.loop-f-preserved c).After-with_field in
    (search rules, λ x. c.loop-f.invariant.1 x ∙ rw c.in_ok-s.was at (h x))

pub returns-then-s-texts-clause-by_index : goal.returns-then-s-texts-clause-by_index
returns-then-s-texts-clause-by_index c =
    λ x. let a = c.args in
    sym (c.loop-f.invariant.1 x ∙ ap (read_on a.characters x a.texts.now (Some c.loop-f.s)) (todo_none a.sets c.loop-f.f c.loop-f-test.false)
    ∙ read_more a.characters x a.texts.now c.loop-f.s c.if-s-texts.true)

pub returns-clause-by_index : goal.returns-clause-by_index
returns-clause-by_index c =
    λ x. let a = c.args in
    sym (c.loop-f.invariant.1 x ∙ ap (read_on a.characters x a.texts.now (Some c.loop-f.s)) (todo_none a.sets c.loop-f.f c.loop-f-test.false)
    ∙ read_all a.characters x a.texts.now c.loop-f.s c.if-s-texts.false)
