-- `put_step` meets its contract, as the code makes it: the fronts are worked out, both must take the character, and the child is made.
use Prim.Native.Nat.{ℕ}
use native.Mathlib.Omega.{arith}
use mathlib.Core.Path.{◌≡◌, sym, ap, ◌∙◌}
use mathlib.Core.List.{List}
use lib.ListN.{length, get_or}
use borrow.Author.Rules.{rules}
use Rattle.paper.specs.Numbers.{longest_side}
use Rattle.base_codes.specs.Inner.{front, tokens}
use Rattle.base_codes.specs.Coded.{denoted}
use Rattle.base_codes.proofs.Tokens.{tokens_front}
use Rattle.search_fronts.specs.Fronts.{with_row, front_from}
use Rattle.search_fronts.specs.declared.FrontToken.{FrontToken}
use Rattle.search_children.specs.Laid.{child_of}
use Rattle.play_step.proofs.StepShort.{put_made, put_dropped}
use Rattle.play_step.proofs.put_step.Goals as goal

-- a front that is worked out of a side's first byte is that of its tokens
front_is : (follow taking : List (List ℕ)) (sets side : List ℕ) (t : FrontToken) → length side ≡ longest_side
    → ((taking : List (List ℕ)) → with_row taking t ≡ front_from follow taking sets (get_or side 0 0))
    → with_row taking t ≡ front_from follow taking sets (front (tokens side))
front_is follow taking sets side t long is = is taking ∙ ap (front_from follow taking sets) (sym (tokens_front side 0 (omega arith)))

pub returns-then-both_take : goal.returns-then-both_take
returns-then-both_take c =
    let a = c.args in
    let l : length a.s.left ≡ longest_side = search rules in
    let r : length a.s.right ≡ longest_side = search rules in
    (rw c.from-value.ensures at c.put.ensures)
    ∙ ap child_of
    (sym (put_made a.tables.now.follow.now a.tables.now.taking.now (denoted a.s) a.c (omega (arith, c.from-value.ensures)) _ _
    (front_is a.tables.now.follow.now a.tables.now.taking.now a.s.sets a.s.left c.front_with-left.result l c.front_with-left.ensures.1)
    (front_is a.tables.now.follow.now a.tables.now.taking.now a.s.sets a.s.right c.front_with-right.result r c.front_with-right.ensures.1)
    c.both_take.result (rw c.from-value.ensures at c.both_take.ensures) c.if-both_take.true))

pub returns-else-both_take : goal.returns-else-both_take
returns-else-both_take c =
    let a = c.args in
    let l : length a.s.left ≡ longest_side = search rules in
    let r : length a.s.right ≡ longest_side = search rules in
    ap child_of
    (sym (put_dropped a.tables.now.follow.now a.tables.now.taking.now (denoted a.s) a.c (omega (arith, c.from-value.ensures)) _ _
    (front_is a.tables.now.follow.now a.tables.now.taking.now a.s.sets a.s.left c.front_with-left.result l c.front_with-left.ensures.1)
    (front_is a.tables.now.follow.now a.tables.now.taking.now a.s.sets a.s.right c.front_with-right.result r c.front_with-right.ensures.1)
    c.both_take.result (rw c.from-value.ensures at c.both_take.ensures) c.if-both_take.false))
