-- `hidden::side` meets its contract. Follows from `Put`.
use native.Mathlib.Omega.{arith}
use Rattle.search_hidden.proofs.Put.{put_behind, no_room_behind}
use Rattle.search_hidden.proofs.side.Goals as goal

pub returns-then-n-lt-LONGEST_SIDE : goal.returns-then-n-lt-LONGEST_SIDE
returns-then-n-lt-LONGEST_SIDE c =
    let n = c.length_of-n in
    put_behind c.args.side n.result _ n.ensures.0 n.ensures.1 n.ensures.2 _ c.copy_from_slice.ensures.after c.if-n-lt-LONGEST_SIDE.true

pub returns-else-n-lt-LONGEST_SIDE : goal.returns-else-n-lt-LONGEST_SIDE
returns-else-n-lt-LONGEST_SIDE c =
    let n = c.length_of-n in
    no_room_behind c.args.side n.result c.args.token n.ensures.0 n.ensures.1 n.ensures.2 _ c.copy_from_slice.ensures.after (omega (arith, n.ensures.0))
