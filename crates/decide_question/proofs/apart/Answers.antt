-- `apart` meets its contract: the bits fit, and what the engine says is said by any such test.
use Prim.Native.Nat.{◌*◌}
use native.Mathlib.Omega.{arith}
use mathlib.Core.Path.{ap}
use mathlib.Core.Bool.{not}
use Rattle.paper.specs.Numbers.{situation_bytes}
use Rattle.paper.proofs.base.Tests.{le_leb, lt_leb}
use Rattle.plain_count.specs.StandingsCoded.{bits_coded}
use Rattle.search_run.specs.Ended.{room_for}
use Rattle.decide_question.specs.Attempt.{apart_asked}
use Rattle.decide_question.proofs.SettlingSteps.{says_same}
use Rattle.decide_question.proofs.apart.Goals as goal

pub returns-then-room-bits : goal.returns-then-room-bits
unfolding apart_asked
returns-then-room-bits c =
    λ m y.
    rw (lt_leb (bits_coded c.args.question) (8 * (situation_bytes * room_for c.args.bytes))
    (omega (arith, c.if-room-bits.true, c.bits_of-bits.ensures.0, c.room_for-room.ensures)))

pub returns : goal.returns
unfolding apart_asked
returns c =
    λ m y.
    rw (le_leb (bits_coded c.args.question) (8 * (situation_bytes * room_for c.args.bytes))
    (omega (arith, c.if-room-bits.false, c.bits_of-bits.ensures.0, c.room_for-room.ensures)))
    (ap not (says_same c.clashes.ensures y))
