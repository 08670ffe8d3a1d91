-- `put_open` meets its contract: nothing, or the record's parts one behind the other.
use borrow.Author.Tests.{eq-eqb, ne_eqb}
use Rattle.base_put.proofs.Counting.{counted_none, counted_then}
use Rattle.base_editions.specs.Editions.{paper_edition}
use Rattle.carry_records.proofs.FromSaid.{out_said}
use Rattle.carry_records.proofs.put_open.Goals as goal

pub returns-then-count-eq0 : goal.returns-then-count-eq0
returns-then-count-eq0 c = rw (eq-eqb c.args.count 0 c.if-count-eq0.true) counted_none

pub returns : goal.returns
returns c =
    let a = c.args in
    rw (ne_eqb a.count 0 c.if-count-eq0.false, ← out_said (paper_edition a.edition) a.f)
    (counted_then (counted_then c.put_all-marked.ensures c.put-named.ensures) (rw c.written_out-code.ensures at c.put_all.ensures))
