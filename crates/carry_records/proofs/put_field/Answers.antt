-- `put_field` meets its contract: the record that stands there, if it is not left out, or what is put where there is none.
use Prim.Native.Nat.{ℕ, ◌+◌, ◌≤◌}
use native.Mathlib.Nat.{add-zero, add-sub_cancel_left}
use native.Mathlib.Omega.{arith}
use mathlib.Core.Path.{◌≡◌, sym, ap, ◌∙◌}
use mathlib.Core.Bool.{false}
use lib.Dec.{eqb}
use lib.ListN.{length}
use borrow.Author.Tests.{ne_eqb}
use Rattle.base_put.proofs.Counting.{counted_none}
use Rattle.carry_records.specs.Changing.{record_length, field_put}
use Rattle.carry_records.proofs.Records.{record_within}
use Rattle.carry_records.proofs.put_field.Goals.{Else-n-eq0}
use Rattle.carry_records.proofs.put_field.Goals as goal

-- what stands at the offset
inside : (c : Else-n-eq0) → let a = c.args in a.from + c.record_at-n.result ≤ length a.s.now
inside c =
    let a = c.args in
    let same = c.record_at-n.ensures in
    rw same (record_within a.s.now a.from a.length (λ z. c.if-n-eq0.false (same ∙ z)))

pub returns-then-n-eq0 : goal.returns-then-n-eq0
unfolding field_put
returns-then-n-eq0 c =
    let none : ◌≡◌ {A = ℕ} _ 0 = sym c.record_at-n.ensures ∙ c.if-n-eq0.true in
    record { next = rw (none, add-zero c.args.from); put = rw none c.put_missing.ensures }

pub overflow_add-next : goal.overflow_add-next
overflow_add-next c = omega (arith, inside (goal.at.overflow_add-next c).Else-n-eq0)

-- the field has a record
stands-there : (c : Else-n-eq0) →
    let a = c.args in
    eqb (record_length a.s.now a.from a.length) 0 ≡ false
stands-there c = rw (← c.record_at-n.ensures) (ne_eqb c.record_at-n.result 0 c.if-n-eq0.false)

behind-it : (c : Else-n-eq0) →
    let a = c.args in
    a.from + c.record_at-n.result ≡ a.from + record_length a.s.now a.from a.length
behind-it c = ap (λ (n : ℕ). c.args.from + n) c.record_at-n.ensures

pub returns-then-leaves_out : goal.returns-then-leaves_out
unfolding field_put
returns-then-leaves_out c =
    let p = goal.at.returns-then-leaves_out c in
    record {
      next = behind-it p.Else-n-eq0;
      put = rw (stands-there p.Else-n-eq0, sym c.leaves_out.ensures ∙ c.if-leaves_out.true) counted_none;
    }

pub slice_bounds-put_all-end : goal.slice_bounds-put_all-end
slice_bounds-put_all-end c = inside (goal.at.slice_bounds-put_all-end c).Else-n-eq0

pub returns : goal.returns
unfolding field_put
returns c =
    let p = goal.at.returns c in
    record {
      next = behind-it p.Else-n-eq0;
      put =
          rw (stands-there p.Else-n-eq0, sym c.leaves_out.ensures ∙ c.if-leaves_out.false, ← c.record_at-n.ensures)
          (rw (add-sub_cancel_left c.args.from c.record_at-n.result) at c.put_all.ensures);
    }
