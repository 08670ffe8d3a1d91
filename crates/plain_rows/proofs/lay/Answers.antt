-- `lay` meets its contract. The loop's invariant: the fields below `f` have their rows (`Laid`), whatever the closure gives of each.
use native.Mathlib.Omega.{arith}
use mathlib.Core.Path.{refl}
use Rattle.std.proofs.iter.Next.{says_at}
use Rattle.plain_rows.proofs.Rows.{laid_more}
use Rattle.plain_rows.proofs.lay.Goals as goal

pub loop-f-preserved : goal.loop-f-preserved
loop-f-preserved g c of h =
    let l = c.loop-f in
    rw (h _ c.part.result (says_at g.F.Fn c.part.ensures refl))
    (laid_more of c.args.own.now c.args.rows.now l.rows l.f (l.invariant of h) (omega arith))
