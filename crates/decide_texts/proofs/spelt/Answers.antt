-- `spelt` meets its contract. The loop's invariant: the tables are those of the characters gone through, and the others are still to come
-- (`Spelling`).
use Prim.Native.Nat.{ℕ, ◌+◌, ◌-◌}
use native.Mathlib.Omega.{arith}
use mathlib.Core.Path.{◌≡◌, ap, ◌∙◌}
use Rattle.decide_texts.specs.TextsCoded.{start, first_to, text_from}
use Rattle.decide_texts.proofs.TextTurns.{text_more, text_none}
use Rattle.decide_texts.proofs.SpeltTables.{spelling_none, spelling_more, spelling_all}
use Rattle.decide_texts.proofs.spelt.Invariants.{at_of}
use Rattle.decide_texts.proofs.spelt.Goals as goal

pub loop-at-init : goal.loop-at-init
loop-at-init c =
    let a = c.args in
    let all : a.length - 0 ≡ a.length = omega arith in
    rw all (spelling_none (text_from a.n a.follow.now a.taking.now (at_of a.ends) a.length start) c.no_text-tables.result c.no_text-tables.ensures)

pub loop-at-preserved : goal.loop-at-preserved
loop-at-preserved c =
    let a = c.args in
    let l = c.loop-at in
    let k = a.length - (l.at + 1) in
    let same : a.length - 1 - l.at ≡ k = omega arith in
    spelling_more _ _ _ l.tables l.at c.first_to-c.result c.place-its.result l.invariant
    (text_more a.n a.follow.now a.taking.now (at_of a.ends) (a.length - l.at) k l.set c.followers-next.result
    c.first_to-c.result (omega arith) c.followers-next.ensures
    (c.first_to-c.ensures.1 ∙ ap (λ (j : ℕ). first_to a.n a.taking.now c.followers-next.result (at_of a.ends j)) same))
    c.place-its.ensures (omega (arith, c.requires)) c.first_to-c.ensures.0

pub returns : goal.returns
returns c =
    let l = c.loop-at in
    let a = c.args in
    spelling_all (text_from a.n a.follow.now a.taking.now (at_of a.ends) a.length start) _ l.tables l.at l.invariant
    (text_none a.n a.follow.now a.taking.now (at_of a.ends) (a.length - l.at) l.set (omega arith))
