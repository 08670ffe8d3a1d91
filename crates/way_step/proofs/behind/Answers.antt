-- `behind` meets its contract, test by test (`LeftBehind`).
use native.Mathlib.Omega.{arith}
use mathlib.Core.Path.{◌≡◌}
use lib.ListN.{length, get_or}
use Rattle.paper.specs.Numbers.{longest_side}
use Rattle.base_codes.specs.Inner.{front, tokens}
use Rattle.base_codes.specs.Coded.{denoted}
use Rattle.base_codes.proofs.Tokens.{tokens_front}
use Rattle.way_step.proofs.LeftBehind.{behind_none, behind_same, behind_both}
use borrow.Author.Rules.{rules}
use Rattle.way_step.proofs.behind.Goals.{Start}
use Rattle.way_step.proofs.behind.Goals as goal

-- the token in front of each side is its first byte
fronts : (c : Start)
    → (front (tokens c.args.s.left) ≡ get_or c.args.s.left 0 0) × (front (tokens c.args.s.right) ≡ get_or c.args.s.right 0 0)
fronts c =
    let l : length c.args.s.left ≡ longest_side = search rules in
    let r : length c.args.s.right ≡ longest_side = search rules in
    (tokens_front c.args.s.left 0 (omega arith), tokens_front c.args.s.right 0 (omega arith))

pub returns-then-step-ge-CHARACTERS : goal.returns-then-step-ge-CHARACTERS
returns-then-step-ge-CHARACTERS c = let a = c.args in behind_none a.left (denoted a.s) a.step c.if-step-ge-CHARACTERS.true

pub returns-then-r-l : goal.returns-then-r-l
returns-then-r-l c =
    let a = c.args in
    behind_same a.left (denoted a.s) a.step (get_or a.s.left 0 0) (get_or a.s.right 0 0) c.if-step-ge-CHARACTERS.false (fronts (goal.at.returns-then-r-l c).Start).0 (fronts (goal.at.returns-then-r-l c).Start).1 c.if-r-l.true c.less_one-less.ensures

pub returns : goal.returns
returns c =
    let a = c.args in
    behind_both a.left (denoted a.s) a.step (get_or a.s.left 0 0) (get_or a.s.right 0 0) c.if-step-ge-CHARACTERS.false (fronts (goal.at.returns c).Start).0 (fronts (goal.at.returns c).Start).1 c.if-r-l.false c.less_one-less.result c.less_one-less.ensures c.less_one.ensures
