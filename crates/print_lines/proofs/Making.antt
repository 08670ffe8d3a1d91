-- From a first line and the records' lines to the lines of an answer, by whether the longest have room. Over any first line that is no longer
-- than a bound. Follows from the definitions and the laws of bytes put one behind the other.
use Prim.Native.Nat.{ℕ, ◌≤◌}
use native.Mathlib.Nat.{zero-add, min-le_left, min-le_right}
use native.Mathlib.Omega.{arith}
use mathlib.Core.Path.{◌≡◌}
use mathlib.Core.Bool.{true, false}
use mathlib.Core.List.{List}
use Rattle.std.proofs.Common.{Some, None}
use lib.Dec.{leb}
use lib.ListN.{length, take, length-take, length-append}
use Rattle.paper.specs.Alphabet.{Edition}
use Rattle.print_lines.specs.Lines.{Prints, lines_behind, room_for, put_as, put_where_room}
use Rattle.print_lines.specs.Writing.{Puts, PutsLines}
use Rattle.print_lines.proofs.Putting.{puts_then, puts_in_front}

module _ (longest : ℕ) where
  -- a first line and the records' lines
  pub lines_put : (k : Edition) (line : List ℕ) (written : ℕ) (a : List ℕ) {d e f : List ℕ} {first end : ℕ}
      → length line ≤ longest
      → Puts d e 0 first line
      → PutsLines k e f first end (take written a)
      → room_for longest a ≤ length d
      → Prints (lines_behind k line written a) d f end
  lines_put k line written a {d} {e} {f} {first} {end} short p lines h =
      let l = lines_behind k line written a in
      let all : Puts d f 0 end l = puts_then p (lines.lines written (rw length-take (min-le_left written (length a)))) in
      let room : end ≤ length d =
      omega (arith, lines.within, length-take written a, min-le_right written (length a), p.behind, short) in
      let many : end ≡ length l = rw zero-add at all.behind in
      let bytes = puts_in_front all (rw many at room) in
      record { bytes = bytes; many = many; within = rw (bytes, length-append l) (omega (arith, many)) }

  -- the lines, by whether the longest have room
  module _ (lines answer out : List ℕ) where
    pub none_put : leb (room_for longest answer) (length out) ≡ false → put_as None out ≡ put_where_room longest lines answer out
    none_put h = rw h

    pub all_put : {out' : List ℕ} {n : ℕ} → leb (room_for longest answer) (length out) ≡ true
        → Prints lines out out' n → put_as (Some n) out' ≡ put_where_room longest lines answer out
    all_put h p = rw (h, p.bytes, p.many)
