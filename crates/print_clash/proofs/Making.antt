-- From the lines that were put and the entry's answer to what is printed of the outcome. Over any lines and any bound on the first one's
-- length, so that what else is printed of an outcome has the same laws. Follows from the definitions of the lines.
use Prim.Native.Nat.{ℕ, ◌+◌, ◌*◌}
use native.Mathlib.Omega.{arith}
use mathlib.Core.Path.{◌≡◌, ap}
use mathlib.Core.Bool.{true, false}
use mathlib.Core.List.{List}
use Rattle.std.proofs.Common.{Option, None}
use Rattle.std.specs.Option.{unwrap_or}
use lib.Dec.{leb}
use lib.ListN.{length, length-append, length-replicate}
use Rattle.paper.specs.Numbers.{program_answer}
use Rattle.paper.specs.Outcome.{Outcome}
use Rattle.paper.proofs.base.Tests.{le_leb}
use Rattle.print_lines.specs.Lines.{lines_in_front, room_for, Prints, Put, put_as, put_where_room}
use Rattle.print_clash.specs.ClashPrinted.{Lined, lined_as, lined_where_room, no_answer}

-- how many bytes of lines there are
abbrev pub filled_bytes : Option ℕ → ℕ
filled_bytes said = unwrap_or said 0

answer_length : length no_answer ≡ program_answer
unfolding no_answer
answer_length = length-replicate {A = ℕ} program_answer 0

module _ (longest : ℕ) (lines : List ℕ) (o : Outcome) (work answer out : List ℕ) where
  -- by whether the longest lines have room
  pub no_room : leb (room_for longest answer) (length out) ≡ false → lined_as None out answer work ≡ lined_where_room longest lines o work answer out
  no_room h = rw h

  pub with_room : {said : Option ℕ} {out' answer' work' : List ℕ}
      → leb (room_for longest answer) (length out) ≡ true
      → length answer' ≡ length answer
      → answer' ≡ o.answer
      → work' ≡ o.work
      → put_as said out' ≡ put_where_room longest lines answer' out
      → lined_as said out' answer' work' ≡ lined_where_room longest lines o work answer out
  with_room h same a w p =
      let q = rw (same, h) at p in
      rw h (λ i. record { said = ap (λ (x : Put). x.said) q i; out = ap (λ (x : Put). x.out) q i; answer = a i; work = w i })

  -- what a program prints in its buffers
  pub program_prints : {out' answer' work' : List ℕ} {said : Option ℕ}
      → answer ≡ no_answer
      → length out ≡ longest + 2 * program_answer
      → lined_as said out' answer' work' ≡ lined_where_room longest lines o work answer out
      → Prints lines out out' (filled_bytes said)
  program_prints {out' = out'} {said = said} b room e =
      let fits : leb (room_for longest answer) (length out) ≡ true = le_leb (room_for longest answer) (length out) (omega (arith, ap length b, answer_length, room)) in
      let f = rw fits at e in
      let bytes : out' ≡ lines_in_front lines out = ap (λ (x : Lined). x.out) f in
      let many : filled_bytes said ≡ length lines = ap (λ (x : Lined). filled_bytes x.said) f in
      record { bytes = bytes; many = many; within = rw (bytes, length-append lines) (omega (arith, many)) }
