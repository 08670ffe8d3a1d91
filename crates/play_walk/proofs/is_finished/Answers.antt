-- `is_finished` meets its contract: a side is empty where its first byte is no token.
use native.Mathlib.Omega.{arith}
use mathlib.Core.Path.{◌≡◌, sym, ap₂, ◌∙◌}
use mathlib.Core.Bool.{◌&&◌}
use lib.Dec.{eqb}
use lib.ListN.{length, get_or}
use borrow.Author.Rules.{rules}
use Rattle.paper.specs.Numbers.{longest_side}
use Rattle.paper.proofs.base.Tests.{eq_eqb, neq_eqb}
use Rattle.base_codes.specs.Inner.{no_token}
use Rattle.base_codes.specs.Coded.{denoted, finished_coded}
use Rattle.base_codes.proofs.Tokens.{none_tokens}
use Rattle.play_walk.proofs.is_finished.Goals.{Start}
use Rattle.play_walk.proofs.is_finished.Goals as goal

by_bytes : (c : Start) → finished_coded (denoted c.args.s) ≡ (eqb (get_or c.args.s.left 0 0) no_token && eqb (get_or c.args.s.right 0 0) no_token)
by_bytes c =
    let l : length c.args.s.left ≡ longest_side = search rules in
    let r : length c.args.s.right ≡ longest_side = search rules in
    ap₂ ◌&&◌ (none_tokens c.args.s.left (omega arith)) (none_tokens c.args.s.right (omega arith))

pub returns-then-s : goal.returns-then-s
returns-then-s c =
    sym (rw (eq_eqb (get_or c.args.s.left 0 0) no_token c.if-s.true) at (by_bytes (goal.at.returns-then-s c).Start))

pub returns-else-s : goal.returns-else-s
returns-else-s c =
    let e = neq_eqb (get_or c.args.s.left 0 0) no_token c.if-s.false in
    e ∙ sym (rw e at (by_bytes (goal.at.returns-else-s c).Start))
