-- `room_behind` meets its contract, by whether the first line has room.
use Prim.Native.Nat.{◌+◌, ◌*◌, ◌-◌, ◌/◌, ◌≤◌}
use native.Mathlib.Omega.{arith}
use mathlib.Core.Path.{sym}
use lib.Dec.{leb}
use Rattle.paper.proofs.base.Tests.{le_leb, lt_leb, leb_true, same_tests}
use Rattle.print_lines.proofs.room_behind.Goals as goal

pub returns-then-out-first : goal.returns-then-out-first
returns-then-out-first c =
    let a = c.args in
    sym (lt_leb (a.first + 2 * a.answer) a.out (omega arith))

pub returns : goal.returns
returns c =
    let a = c.args in
    let all = a.first + 2 * a.answer in
    let rest = (a.out - a.first) / 2 in
    same_tests (leb a.answer rest) (leb all a.out)
    (λ t. le_leb all a.out (let h : a.answer ≤ rest = leb_true a.answer rest t in omega arith))
    (λ t. le_leb a.answer rest (let h : all ≤ a.out = leb_true all a.out t in omega arith))
