-- `pattern_weights` meets its contract. The loop's invariant: the codes from i on are done, and what they make stands from `top` on (`Walked`).
use Prim.Native.Nat.{ℕ, ◌+◌, ◌-◌, ◌≤◌}
use native.Mathlib.Omega.{arith}
use mathlib.Core.Path.{sym, ◌∙◌, subst}
use mathlib.Core.List.{List}
use borrow.Author.Rules.{rules}
use lib.ListN.{length, length-map, get_or-map}
use Rattle.paper.specs.Numbers.{pattern_bytes}
use Rattle.paper.specs.Alphabet.{code, codes}
use Rattle.base_editions.specs.Editions.{paper_edition}
use Rattle.decide_letters.specs.PatternStack.{counted}
use Rattle.decide_letters.specs.LettersCoded.{Least}
use Rattle.decide_letters.proofs.Walked.{uses_le, Walked, walked_none, walked_more, walked_room, walked_all}
use Rattle.decide_letters.proofs.pattern.pattern_weights.Goals.{Start}
use Rattle.decide_letters.proofs.pattern.pattern_weights.Goals as goal

-- there are no more codes than a pattern may have
at-most-192 : (s : Start) → length (codes (paper_edition s.args.edition) s.args.bytes.now) ≤ pattern_bytes
at-most-192 s = omega (arith, s.requires, length-map s.args.bytes.now (code (paper_edition s.args.edition)))

pub loop-i-init : goal.loop-i-init
loop-i-init c =
    let bytes = c.args.bytes.now in
    let e = paper_edition c.args.edition in
    walked_none (counted c.args.counting) (codes e bytes) c.args.stack.now (length bytes) (search rules) (sym (length-map bytes (code e)))

pub made-w-requires : goal.made-w-requires
made-w-requires c = c.loop-i.invariant.room

pub put-top-requires : goal.put-top-requires
put-top-requires c =
    let cs = codes (paper_edition c.args.edition) c.args.bytes.now in
    let short = at-most-192 (goal.at.put-top-requires c).Start in
    let some = walked_room (counted c.args.counting) cs short c.loop-i.stack c.loop-i.top c.loop-i.lo c.loop-i.hi c.loop-i.i c.loop-i.invariant c.loop-i-test.true in
    (c.loop-i.invariant.room, omega arith, omega (arith, c.uses.ensures, uses_le c.code-c.result))

pub loop-i-preserved : goal.loop-i-preserved
loop-i-preserved c =
    let e = paper_edition c.args.edition in
    let bytes = c.args.bytes.now in
    let i = c.loop-i.i in
    let its = c.code-c.ensures ∙ sym (get_or-map (code e) bytes (i - 1) 0) in
    let least = subst (λ (n : ℕ). Least (c.loop-i.top + n) pattern_bytes (c.put-top.result + 1)) c.uses.ensures c.put-top.ensures.1 in
    subst (λ (t : List ℕ). Walked (counted c.args.counting) (codes e bytes) t c.put-top.result c.code-c.result c.loop-i.lo (i - 1)) (sym c.put-top.ensures.0)
    (walked_more (counted c.args.counting) (codes e bytes) (at-most-192 (goal.at.loop-i-preserved c).Start) c.loop-i.stack c.loop-i.top c.loop-i.lo c.loop-i.hi i c.loop-i.invariant
    c.code-c.result c.made-w.result c.put-top.result (code e 0) c.loop-i-test.true its c.made-w.ensures least)

pub returns : goal.returns
returns c =
    let cs = codes (paper_edition c.args.edition) c.args.bytes.now in
    c.at.ensures
    ∙ walked_all (counted c.args.counting) cs (at-most-192 (goal.at.returns c).Start) c.loop-i.stack c.loop-i.top c.loop-i.lo c.loop-i.hi c.loop-i.i c.loop-i.invariant (omega arith)
