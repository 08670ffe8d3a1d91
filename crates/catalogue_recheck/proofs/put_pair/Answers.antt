-- `put_pair` meets its contract: no byte, or five or seven one behind the other (`PairBytes`). Assumes nothing.
use Prim.Native.Nat.{◌+◌, ◌≤◌}
use native.Mathlib.Omega.{arith}
use mathlib.Core.Path.{◌≡◌, sym, ap, ◌∙◌}
use mathlib.Core.Bool.{false}
use lib.Dec.{eqb}
use lib.ListN.{length, length-set}
use Rattle.catalogue_question.specs.AskedBy.{asking_coded}
use Rattle.catalogue_question.specs.declared.Asking.{Asking}
use Rattle.catalogue_recheck.specs.PairList.{above_count}
use Rattle.catalogue_recheck.proofs.PairBytes.{its_length, five_at_least, puts_no_bytes, puts_five_bytes, puts_seven_bytes}
use Rattle.catalogue_recheck.proofs.put_pair.Goals.{Else-is_apart, In-Decide}
use Rattle.catalogue_recheck.proofs.put_pair.Goals as goal

pub returns-then-is_apart : goal.returns-then-is_apart
returns-then-is_apart c =
    let a = c.args in
    puts_no_bytes a.lower a.higher a.pair (asking_coded a.how) a.bytes.now a.n (sym c.is_apart.ensures ∙ c.if-is_apart.true)

not-apart : (c : Else-is_apart) → eqb c.args.pair.answer 1 ≡ false
not-apart c = sym c.is_apart.ensures ∙ c.if-is_apart.false

-- its bytes fit
its-fit : (c : Else-is_apart) →
    let a = c.args in a.n + (asking_coded a.how).pair_bytes ≤ length a.bytes.now
its-fit c =
    let a = c.args in
    omega (arith, c.requires.room, its_length a.lower a.higher a.pair a.how (not-apart c))

five-fit : (c : Else-is_apart) →
    let a = c.args in a.n + 5 ≤ length a.bytes.now
five-fit c = omega (arith, its-fit c, five_at_least c.args.how)

pub bounds-bytes-n : goal.bounds-bytes-n
bounds-bytes-n c = omega (arith, five-fit (goal.at.bounds-bytes-n c).Else-is_apart)

pub bounds-bytes-n-2 : goal.bounds-bytes-n-2
bounds-bytes-n-2 c = simp length-set (omega (arith, five-fit (goal.at.bounds-bytes-n-2 c).Else-is_apart))

pub overflow_cast-bytes-3 : goal.overflow_cast-bytes-3
overflow_cast-bytes-3 c = omega (arith, c.requires.answer_byte)

pub bounds-bytes-n-3 : goal.bounds-bytes-n-3
bounds-bytes-n-3 c = simp length-set (omega (arith, five-fit (goal.at.bounds-bytes-n-3 c).Else-is_apart))

pub bounds-bytes-n-4 : goal.bounds-bytes-n-4
bounds-bytes-n-4 c = simp length-set (omega (arith, five-fit (goal.at.bounds-bytes-n-4 c).Else-is_apart))

pub overflow_cast-bytes-in-Search : goal.overflow_cast-bytes-in-Search
overflow_cast-bytes-in-Search c = omega (arith, c.requires.count_bytes, ap above_count c.in-Search.is)

pub bounds-bytes-n-in-Search : goal.bounds-bytes-n-in-Search
bounds-bytes-n-in-Search c = simp length-set (omega (arith, five-fit (goal.at.bounds-bytes-n-in-Search c).Else-is_apart))

seven-fit : (c : In-Decide) →
    let a = c.args in a.n + 7 ≤ length a.bytes.now
seven-fit c =
    let a = c.args in
    let apart = sym c.is_apart.ensures ∙ c.if-is_apart.false in
    omega (
      arith,
      c.requires.room,
      its_length a.lower a.higher a.pair a.how apart,
      ap (λ (h : Asking). (asking_coded h).pair_bytes) c.in-Decide.is,
    )

pub bounds-bytes-n-in-Decide : goal.bounds-bytes-n-in-Decide
bounds-bytes-n-in-Decide c = simp length-set (omega (arith, seven-fit (goal.at.bounds-bytes-n-in-Decide c).In-Decide))

pub overflow_cast-bytes-in-Decide-2 : goal.overflow_cast-bytes-in-Decide-2
overflow_cast-bytes-in-Decide-2 c = omega (arith, c.requires.count_bytes, ap above_count c.in-Decide.is)

pub bounds-bytes-n-in-Decide-2 : goal.bounds-bytes-n-in-Decide-2
bounds-bytes-n-in-Decide-2 c = simp length-set (omega (arith, seven-fit (goal.at.bounds-bytes-n-in-Decide-2 c).In-Decide))

pub bounds-bytes-n-in-Decide-3 : goal.bounds-bytes-n-in-Decide-3
bounds-bytes-n-in-Decide-3 c = simp length-set (omega (arith, seven-fit (goal.at.bounds-bytes-n-in-Decide-3 c).In-Decide))

pub returns-in-Search : goal.returns-in-Search
returns-in-Search c =
    let a = c.args in
    rw c.in-Search.is (puts_five_bytes a.lower a.higher a.pair a.bytes.now a.n (not-apart (goal.at.returns-in-Search c).Else-is_apart))

pub shape_of-bytes-in-Decide : goal.shape_of-bytes-in-Decide
shape_of-bytes-in-Decide c = simp length-set

pub returns-in-Decide : goal.returns-in-Decide
returns-in-Decide c =
    let a = c.args in
    rw c.in-Decide.is (puts_seven_bytes a.lower a.higher a.pair a.bytes.now a.n (not-apart (goal.at.returns-in-Decide c).Else-is_apart))
