-- `put_with` meets its contract: without room nothing is changed, with room the lines are put. Follows from `none_put` and `all_put`.
use mathlib.Core.Path.{◌≡◌, sym, ◌∙◌}
use mathlib.Core.Bool.{true}
use lib.Dec.{leb}
use lib.ListN.{length}
use Rattle.paper.proofs.base.Tests.{leb_true}
use Rattle.base_editions.specs.Editions.{paper_edition}
use Rattle.print_lines.specs.Lines.{longest_line, room_for, lines_with, put_with}
use Rattle.print_lines.proofs.Making.{none_put, all_put}
use Rattle.print_lines.proofs.put_with.Goals.{Then-room_behind}
use Rattle.print_lines.proofs.put_with.Goals as goal

-- the longest lines have room
room : (c : Then-room_behind) → let a = c.args in leb (room_for (longest_line a.search) a.answer.now) (length a.out.now) ≡ true
room c = sym (rw c.longest.ensures at c.room_behind.ensures) ∙ c.if-room_behind.true

pub lines_put-requires : goal.lines_put-requires
lines_put-requires c =
    let a = c.args in
    leb_true (room_for (longest_line a.search) a.answer.now) (length a.out.now) (room (goal.at.lines_put-requires c).Then-room_behind)

pub returns-then-room_behind : goal.returns-then-room_behind
unfolding put_with
returns-then-room_behind c =
    let a = c.args in
    all_put (longest_line a.search) (lines_with (paper_edition a.edition) a.told a.search a.answer.now) a.answer.now a.out.now
    (room (goal.at.returns-then-room_behind c).Then-room_behind) c.lines_put.ensures

pub returns-else-room_behind : goal.returns-else-room_behind
unfolding put_with
returns-else-room_behind c =
    let a = c.args in
    none_put (longest_line a.search) (lines_with (paper_edition a.edition) a.told a.search a.answer.now) a.answer.now a.out.now
    (sym (rw c.longest.ensures at c.room_behind.ensures) ∙ c.if-room_behind.false)
