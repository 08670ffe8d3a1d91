-- `search::enter_first` meets its contract: no room, or the slot with the number 0. Follows from what `key_of`, `bucket_of` and
-- `enter_with` ensure.
use native.Mathlib.Omega.{arith}
use mathlib.Core.Path.{sym, ◌∙◌}
use lib.ListN.{length}
use borrow.Author.Rules.{rules}
use Rattle.paper.proofs.base.Tests.{le_leb}
use Rattle.search_run.specs.Run.{enter_slot}
use Rattle.search_run.proofs.search.Keys.{key_put, bucket_put}
use Rattle.search_run.proofs.search.enter_first.Goals as goal

pub returns-then-room-eq0 : goal.returns-then-room-eq0
unfolding enter_slot
returns-then-room-eq0 c =
    let room = c.args.room in
    record {
      within = search rules;
      more = search rules;
      lent = λ k ss e s h l.
          rw (le_leb room (length ss) (omega arith))
          (record { kept = h; entered = c.no_room.ensures.0 ∙ sym l; status = c.no_room.ensures.1 });
    }

pub returns : goal.returns
returns c =
    let work = c.args.work.now in
    record {
      within = c.enter_with.ensures.within;
      more = c.enter_with.ensures.more;
      lent = λ k ss e s h l.
          c.enter_with.ensures.lent k ss (key_put k e c.key_of-key.ensures)
          (bucket_put k e c.key_of-key.ensures s work (omega (arith, c.requires)) c.bucket_of-b.ensures) s h l;
    }
