-- `standings` meets its contract. The loop's invariant: the fields below f are counted (`Counted`).
use Prim.Native.Nat.{ℕ, ◌+◌}
use native.Mathlib.Omega.{arith}
use mathlib.Core.Path.{refl, sym, ap₂, ◌∙◌}
use mathlib.Core.List.{◌++◌}
use Rattle.paper.specs.Numbers.{set_fields}
use Rattle.base_codes.specs.Inner.{field_code, tokens}
use Rattle.base_question.specs.Standings.{count, standing_times}
use Rattle.base_question.proofs.Counts.{count_append, counted_none, counted_more, counted_all}
use Rattle.base_question.proofs.standings.Goals as goal

pub loop-f-init : goal.loop-f-init
loop-f-init c = counted_none _ set_fields _ refl

pub loop-f-preserved : goal.loop-f-preserved
loop-f-preserved c =
    let a = c.args in
    let f = c.loop-f.f in
    counted_more (λ (x : ℕ). count (field_code + x) (tokens a.left ++ tokens a.right)) set_fields _ f c.loop-f.invariant (omega arith) _
    (ap₂ (λ (x y : ℕ). x + y) c.times.ensures.times c.times-in-loop-f.ensures.times ∙ sym (count_append (field_code + f) (tokens a.left) (tokens a.right)))

pub returns : goal.returns
unfolding standing_times
returns c =
    let a = c.args in
    counted_all (λ (x : ℕ). count (field_code + x) (tokens a.left ++ tokens a.right)) set_fields _ c.loop-f.f c.loop-f.invariant (omega arith)
