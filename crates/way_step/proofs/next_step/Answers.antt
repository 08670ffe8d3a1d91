-- `next_step` meets its contract, test by test (`NextTests`).
use native.Mathlib.Omega.{arith}
use mathlib.Core.Path.{◌≡◌, sym, ◌∙◌}
use lib.ListN.{length, get_or}
use Rattle.paper.specs.Numbers.{longest_side}
use Rattle.base_codes.specs.Inner.{front, tokens}
use Rattle.base_codes.specs.Coded.{denoted}
use Rattle.base_codes.proofs.Tokens.{tokens_front}
use Rattle.way_step.proofs.NextTests.{next_left, next_right, next_put}
use borrow.Author.Rules.{rules}
use Rattle.way_step.proofs.next_step.Goals.{Start}
use Rattle.way_step.proofs.next_step.Goals as goal

-- the token in front of each side is its first byte
fronts : (c : Start)
    → (front (tokens c.args.s.left) ≡ get_or c.args.s.left 0 0) × (front (tokens c.args.s.right) ≡ get_or c.args.s.right 0 0)
fronts c =
    let l : length c.args.s.left ≡ longest_side = search rules in
    let r : length c.args.s.right ≡ longest_side = search rules in
    (tokens_front c.args.s.left 0 (omega arith), tokens_front c.args.s.right 0 (omega arith))

pub returns-then-is_used_up : goal.returns-then-is_used_up
returns-then-is_used_up c =
    let a = c.args in
    next_left a.space a.texts.now a.ends a.left a.characters (denoted a.s) (get_or a.s.left 0 0) (fronts (goal.at.returns-then-is_used_up c).Start).0 (sym c.is_used_up.ensures ∙ c.if-is_used_up.true)

pub returns-then-is_used_up-2 : goal.returns-then-is_used_up-2
returns-then-is_used_up-2 c =
    let a = c.args in
    next_right a.space a.texts.now a.ends a.left a.characters (denoted a.s) (get_or a.s.left 0 0) (fronts (goal.at.returns-then-is_used_up-2 c).Start).0 (sym c.is_used_up.ensures ∙ c.if-is_used_up.false)
    (get_or a.s.right 0 0) (fronts (goal.at.returns-then-is_used_up-2 c).Start).1 (sym c.is_used_up-2.ensures ∙ c.if-is_used_up-2.true)

pub returns : goal.returns
returns c =
    let a = c.args in
    next_put a.space a.texts.now a.ends a.left a.characters (denoted a.s) (get_or a.s.left 0 0) (fronts (goal.at.returns c).Start).0 (sym c.is_used_up.ensures ∙ c.if-is_used_up.false)
    (get_or a.s.right 0 0) (fronts (goal.at.returns c).Start).1 (sym c.is_used_up-2.ensures ∙ c.if-is_used_up-2.false) c.character-c.result c.character-d.result c.character-c.ensures c.character-d.ensures c.put_code.ensures
